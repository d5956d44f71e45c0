pub mod Fronts
pub mod Merged
pub mod Order
pub mod Paired
pub mod RankedStacks
pub mod Sums
pub mod Timeline
pub mod checked
