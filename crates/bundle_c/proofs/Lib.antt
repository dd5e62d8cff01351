pub mod NumberReturns
