-- What the insides of the crate keep, which the checks prove: no public contract stands on it.
pub mod EndHistories
pub mod Merges
pub mod Sends
pub mod Writes
pub mod WrittenProps
