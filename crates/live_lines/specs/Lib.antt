-- The definitions that the contracts of live_lines cite.
pub mod Ends
pub mod Frames
pub mod Lines
pub mod LiveState
pub mod Pages
pub mod Settings
pub mod Terminal
pub mod Written
pub mod checked
