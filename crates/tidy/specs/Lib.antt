pub mod Tidied
pub mod InOrder
