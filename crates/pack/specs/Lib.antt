pub mod Answer
pub mod Packing
