-- What the insides of the crate keep, which the checks prove: no public contract stands on it.
pub mod Merging
pub mod Summed
pub mod TakenRows
pub mod Tallies
