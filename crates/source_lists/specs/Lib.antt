-- The definitions that the contracts of source_lists cite.
pub mod FromNames
pub mod Lists
pub mod OmittedNames
pub mod Runs
pub mod Sources
pub mod Strictness
pub mod Summing
pub mod Types
pub mod checked
