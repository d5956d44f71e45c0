pub mod Naming
pub mod FrameNames
pub mod Samples
pub mod SeenTables
pub mod State
pub mod checked
