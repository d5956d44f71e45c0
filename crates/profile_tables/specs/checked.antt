-- Definitions that no public contract cites: not to be believed, but checked with the code that cites them.
pub mod FrameNumbers
pub mod Frames
pub mod Fronts
pub mod Functions
pub mod Outcome
pub mod PartReaders
pub mod Places
pub mod Rests
pub mod RowSteps
pub mod SeenOutline
pub mod Tellers
pub mod View
