-- The definitions that the contracts of merging cite.
pub mod Gathered
pub mod Snapshots
pub mod Sums
pub mod TreeSinkState
pub mod checked
