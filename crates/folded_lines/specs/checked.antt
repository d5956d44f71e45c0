-- Definitions that no public contract cites: not to be believed, but checked with the code that cites them.
pub mod Cutting
pub mod KnownStacks
pub mod KnownStreams
pub mod LineBuffers
pub mod RowLines
pub mod Scanning
pub mod Sharing
pub mod StreamLines
pub mod StreamPlaces
pub mod StreamReading
pub mod Strictness
pub mod Telling
pub mod View
