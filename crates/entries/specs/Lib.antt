pub mod Runs
pub mod Settle
