pub mod EntryLemmas
pub mod Naming
pub mod Spans
mod Texts
