pub mod Glance
pub mod Descent
pub mod Says
