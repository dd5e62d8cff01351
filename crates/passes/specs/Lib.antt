pub mod Passed
pub mod Tail
pub mod Runs
pub mod Run
