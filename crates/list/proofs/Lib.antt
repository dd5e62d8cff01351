pub mod PassLaw
pub mod Returns
