-- The definitions that the contracts of svg_texts cite.
pub mod Changes
pub mod Drawn
pub mod Fills
pub mod Labels
pub mod Shown
pub mod Svg
pub mod SvgLaws
pub mod SvgTags
pub mod checked
