pub mod ReadForms
pub mod ReadUse
pub mod JudgeReturns
pub mod JudgeUse
pub mod DecodeReturns
pub mod DecodeUse
pub mod LooseReturns
