pub mod BoxLists
pub mod Fronts
pub mod JsonBytes
pub mod JsonFrames
pub mod JsonLists
pub mod JsonMembers
pub mod JsonReading
pub mod JsonValues
pub mod MergedLines
pub mod PairRows
pub mod PartFolds
pub mod Places
pub mod PlainTexts
pub mod Progress
pub mod SignBytes
pub mod StackPairs
pub mod SumViews
pub mod TextPieces
pub mod ThreeDigits
pub mod TypeLines
mod WorkedFold
mod WorkedLines
mod WorkedParts
mod WorkedTexts
mod WorkedTypes
