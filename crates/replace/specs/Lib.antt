pub mod Report
pub mod Left
pub mod Own
pub mod Fresh
pub mod Prepared
pub mod Replaced
pub mod Exchanged
pub mod Previewed
