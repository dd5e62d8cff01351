pub mod TableLaw
pub mod TableReturns
pub mod SettleLaw
pub mod SettleReturns
pub mod LargeReturns
