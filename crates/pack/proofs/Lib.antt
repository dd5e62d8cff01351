pub mod Store
pub mod Sizes
pub mod SpanReturns
pub mod SymbolReturns
pub mod RestsLaw
pub mod PackReturns
pub mod Use
