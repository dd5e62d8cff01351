pub mod Open
pub mod Plan
pub mod Moves
pub mod Look
pub mod Run
