pub mod EncodeReturns
-- ---- what the answers mean
pub mod Encoded
