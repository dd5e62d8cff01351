pub mod Encode
pub mod Ready
pub mod Listed
