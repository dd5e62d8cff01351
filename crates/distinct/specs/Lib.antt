pub mod Select
pub mod Gathered
pub mod Pairs
pub mod Classes
pub mod Count
