pub mod WordsReturns
pub mod ListReturns
pub mod LeafReturns
pub mod WorkReturns
