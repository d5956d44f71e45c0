-- Definitions that no contract of a public function cites. The proofs use them; a reader need not believe them.
pub mod ChartRuns
pub mod ChartWalks
pub mod Held
pub mod Listed
pub mod Paired
pub mod Walk
