pub mod Hash
pub mod Probe
