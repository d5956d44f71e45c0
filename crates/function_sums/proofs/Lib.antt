pub mod ChangePieces
pub mod ChangedTable
pub mod Counting
pub mod CutSamples
pub mod FoundCalls
pub mod FoundWeights
pub mod FunctionList
pub mod Functions
pub mod Growing
pub mod JoinedNames
pub mod JsonLaws
pub mod NamesWithWeight
pub mod OneTable
pub mod SharedTotal
pub mod TableLines
pub mod TextPieces
pub mod TopTexts
mod WorkedRows
mod WorkedTexts
