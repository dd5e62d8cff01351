pub mod BufferReturns
pub mod WalkWords
pub mod WalkReturns
pub mod LastReturns
pub mod WalkRule
pub mod LastRule
