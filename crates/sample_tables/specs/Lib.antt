pub mod NameHashes
pub mod Rows
pub mod Samples
pub mod Spans
pub mod Tables
pub mod checked
