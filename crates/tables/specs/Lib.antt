pub mod Made
pub mod Tabled
