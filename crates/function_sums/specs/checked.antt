-- Definitions that no contract of a public function cites. The proofs use them; a reader need not believe them.
pub mod Counted
pub mod Cuts
pub mod Entries
pub mod Rows
pub mod Sides
