-- The definitions that the contracts of run_options cite.
pub mod Filters
pub mod Formats
pub mod Orders
