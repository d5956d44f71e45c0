pub mod OwnFrameLemmas
pub mod LineLemmas
pub mod FunctionLemmas
pub mod FileLemmas
pub mod FrontLemmas
pub mod FrameLemmas
pub mod FrameNameLemmas
mod NamingLemmas
pub mod NumberLemmas
pub mod SampleLemmas
pub mod RestLemmas
pub mod PartLemmas
pub mod RowLemmas
pub mod StepLemmas
pub mod ReaderLemmas
pub mod UnstoppedLemmas
pub mod Rows
