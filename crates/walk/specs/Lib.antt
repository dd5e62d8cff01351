pub mod Source
pub mod RowOne
pub mod Walk
pub mod Last
pub mod Run
