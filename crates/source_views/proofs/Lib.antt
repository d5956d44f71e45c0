pub mod FoldedSources
pub mod MergedRuns
pub mod MessageTexts
mod OpenedSources
pub mod PageDrawings
pub mod SnapshotLines
pub mod TextLemmas
mod WorkedLongTexts
mod WorkedSnapshots
