-- What the insides of the crate keep, which the checks prove: no public contract stands on it.
pub mod CutStacks
pub mod Filtering
pub mod InputReaders
pub mod Inputs
pub mod Joining
pub mod KeptStacks
pub mod NameMarks
pub mod OpenRuns
pub mod PartRuns
pub mod Parts
pub mod Readers
pub mod StoredProfiles
pub mod StrictEndings
pub mod SummedRows
pub mod SummedRuns
pub mod UnkeptSamples
