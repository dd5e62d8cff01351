use borrow.Author.Rules.{rules}
use Rattle.bundle.proofs.CheckReturns.{check_cases}
use Rattle.bundle.proofs.check.check_bundle.Goals as goal

pub returns-in_default : goal.returns-in_default
returns-in_default c = search (rules, check_cases)

pub slice_bounds-check-count : goal.slice_bounds-check-count
slice_bounds-check-count c = search (rules, check_cases)

pub slice_bounds-check-start : goal.slice_bounds-check-start
slice_bounds-check-start c = search (rules, check_cases)

pub returns : goal.returns
returns c = search (rules, check_cases)
