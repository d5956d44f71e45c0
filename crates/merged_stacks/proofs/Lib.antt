pub mod GivenStacks
pub mod GrowingLists
pub mod JoinedStacks
pub mod KeptStacks
pub mod MergedRows
mod SideSamples
mod SweepSteps
pub mod SweptRows
pub mod Timelines
mod WorkedStacks
