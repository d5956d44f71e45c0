pub mod Steps
pub mod Varint
pub mod Field
pub mod Spelling
pub mod Fault
pub mod Reading
pub mod FaultText
pub mod checked
