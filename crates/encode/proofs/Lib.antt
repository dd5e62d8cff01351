pub mod SizeReturns
pub mod EncodeReturns
pub mod EncodePut
pub mod EncodeForms
pub mod EncodeTree
pub mod EncodeUse
pub mod ListedReturns
