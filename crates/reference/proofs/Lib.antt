pub mod PackReturns
pub mod ListReturns
pub mod Agree
