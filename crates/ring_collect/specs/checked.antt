-- Definitions that no public contract cites: not to be believed, but checked with the code that cites them.
pub mod Batches
pub mod Ends
pub mod FlatRecords
pub mod Intakes
pub mod Numbering
pub mod Records
pub mod Rings
pub mod Rounds
pub mod RunningSources
pub mod Settlement
pub mod Tellers
pub mod WholeRuns
