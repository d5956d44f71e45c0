-- The definitions that the contracts of source_views cite.
pub mod Failures
pub mod LongTexts
pub mod Messages
pub mod Names
pub mod Opening
pub mod Pages
pub mod SumViews
pub mod Texts
pub mod Views
pub mod checked
