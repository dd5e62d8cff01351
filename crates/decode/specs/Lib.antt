pub mod Reported
pub mod Judge
pub mod Decode
