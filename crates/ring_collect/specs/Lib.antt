pub mod Collection
pub mod NamesInOrder
pub mod checked
