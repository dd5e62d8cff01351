-- ---- laws for callers
pub mod Typed
pub mod Decimal
-- ---- one law for each return
pub mod TextReturns
