pub mod BoxReading
pub mod Columns
pub mod DrawingTexts
pub mod KeptDrawings
pub mod KeptParts
pub mod Names
pub mod NoMarkup
pub mod PageReading
pub mod PageTexts
pub mod PartLists
pub mod SafeReading
pub mod SafeStrings
pub mod SafeText
pub mod Seams
pub mod Unsent
mod WorkedPages
mod WorkedReading
