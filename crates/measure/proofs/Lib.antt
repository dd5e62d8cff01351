pub mod SumReturns
pub mod CursorReturns
