-- ---- a part of a run
pub mod Parts
-- ---- one law for each return
pub mod FreshReturns
pub mod JudgeReturns
pub mod PrepareReturns
pub mod SetReturns
pub mod PreviewReturns
-- ---- what the answers mean
pub mod Exchanged
pub mod Previewed
