-- ---- of the definitions: what is in the run, what is built, what is restored
pub mod Trees
pub mod Forest
pub mod Framed
pub mod BuilderRun
pub mod BuilderBuild
pub mod BuilderRestore
-- ---- one law for each return
pub mod StateReturns
pub mod RangeReturns
pub mod StoreReturns
pub mod StepReturns
pub mod TakenReturns
pub mod RestoreReturns
pub mod BuildReturns
-- ---- the array of open trees, a pushed leaf, an answered verdict
pub mod Numbers
pub mod Pushed
-- ---- what the steps mean
pub mod Seen
pub mod Runs
pub mod RunBuilds
