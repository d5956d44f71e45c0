-- The definitions that the contracts of view_texts cite.
pub mod Fold
pub mod Json
pub mod JsonLaws
pub mod Lines
pub mod Pairs
pub mod Parts
pub mod Pieces
pub mod Quotients
pub mod Shares
pub mod Types
pub mod WeightTexts
pub mod checked
