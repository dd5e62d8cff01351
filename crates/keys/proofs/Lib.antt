pub mod Lists
pub mod KeyReturns
pub mod RunLaw
