-- The definitions that the contracts of page_texts cite.
pub mod Columns
pub mod Document
pub mod Drawn
pub mod Page
pub mod PageLaws
pub mod ScriptSafe
pub mod checked
