-- ---- one law for each return
pub mod RewriteReturns
-- ---- what the answers mean
pub mod Rewritten
