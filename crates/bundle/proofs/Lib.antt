-- ---- what the records are, and what an answer tells
pub mod Records
pub mod Told
-- ---- one law for each return
pub mod ReadReturns
pub mod CheckReturns
-- ---- what the host's number means
pub mod Admits
