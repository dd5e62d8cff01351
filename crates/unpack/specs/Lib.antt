pub mod Words
pub mod List
pub mod Leaf
