pub mod JoinedRows
pub mod KeptNames
pub mod MappedLists
pub mod MovedRows
pub mod RankedNames
pub mod WeighingRows
mod WorkedRows
