pub mod Key
pub mod Keys
pub mod Index
pub mod Places
pub mod Tables
pub mod Portion
