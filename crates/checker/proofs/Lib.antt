-- ---- the descent, and what it sees
pub mod Descent
pub mod Seen
-- ---- one law for each return
pub mod GlanceReturns
pub mod CheckReturns
-- ---- what the answers mean
pub mod Admits
