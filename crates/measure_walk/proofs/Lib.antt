pub mod FreshReturns
