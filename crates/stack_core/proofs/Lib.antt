pub mod GivenLemmas
pub mod InterleavingLemmas
mod LaneMoves
pub mod RecordLemmas
pub mod ScheduleLemmas
mod ScheduleRows
pub mod ToldLemmas
pub mod WorkedRows
