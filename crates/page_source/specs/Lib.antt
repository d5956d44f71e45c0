-- The definitions that the contracts of page_source cite.
pub mod Source
