-- ---- the subtrees around a tree
pub mod Opened
-- ---- what is listed, by the sizes of the tables, and how long it is
pub mod Listed
pub mod Eight
pub mod Counted
pub mod Length
pub mod BySizes
-- ---- one law for each return
pub mod LinesReturns
pub mod DepthReturns
pub mod ListReturns
