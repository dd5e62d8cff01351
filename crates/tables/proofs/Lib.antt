pub mod MakeReturns
-- ---- what the answers mean
pub mod Tabled
