pub mod CountLemmas
pub mod GatherLemmas
pub mod PairSums
mod RowLemmas
pub mod SinkLemmas
pub mod SnapshotLemmas
pub mod SumLemmas
mod SummedLemmas
pub use Rattle.source_lists.proofs.BackLemmas
