pub mod OpenReturns
pub mod PlanReturns
pub mod CursorWords
pub mod MovesReturns
pub mod LookReturns
pub mod CursorRule
