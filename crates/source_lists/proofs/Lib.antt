pub mod BackLemmas
pub mod CutLemmas
mod FaultLemmas
mod FilteredSources
pub mod FoundRests
pub mod InputLemmas
pub mod JoinLemmas
mod KeptLemmas
pub mod KnownInputs
pub mod ListLemmas
pub mod OrderLemmas
pub mod PartLemmas
pub mod ProfileLemmas
pub mod ReaderThreads
pub mod StrictLemmas
mod SummedLemmas
mod WorkedFromNames
mod WorkedOmittedNames
