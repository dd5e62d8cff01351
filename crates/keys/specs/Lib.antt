pub mod Keys
pub mod Runs
