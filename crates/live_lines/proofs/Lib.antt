mod EndLemmas
mod FrameLemmas
pub mod GraphLemmas
mod LineLemmas
mod MergeLemmas
pub mod SettingLemmas
mod WorkedFrames
pub mod WriteLemmas
