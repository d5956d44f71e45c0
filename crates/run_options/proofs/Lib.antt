pub mod FilterLemmas
mod WorkedFilters
