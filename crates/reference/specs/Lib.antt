pub mod Packing
pub mod Lists
