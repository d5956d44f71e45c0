-- Definitions that no contract of a public function cites. The proofs use them; a reader need not believe them.
pub mod Parts
