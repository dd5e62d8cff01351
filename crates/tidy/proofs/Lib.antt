-- ---- one law for each return
pub mod TidyReturns
-- ---- what the answers mean
pub mod InOrder
