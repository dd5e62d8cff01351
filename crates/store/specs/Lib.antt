pub mod Told
pub mod Preview
pub mod Tidy
