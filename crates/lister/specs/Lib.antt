pub mod BySizes
pub mod Counts
pub mod Ends
pub mod TreePut
