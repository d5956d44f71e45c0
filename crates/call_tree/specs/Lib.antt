pub mod CallTree
pub mod FrameTable
pub mod Listing
pub mod PathSums
pub mod SpellingCache
pub mod checked
