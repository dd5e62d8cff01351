use borrow.Author.Rules.{rules}
use Rattle.passes.proofs.SizesReturns.{children_cases}
use Rattle.passes.proofs.sizes.children_of.Goals as goal

pub returns-then-l-n-lt-SUBTREE : goal.returns-then-l-n-lt-SUBTREE
returns-then-l-n-lt-SUBTREE c = search (rules, children_cases)

pub bounds-work-end : goal.bounds-work-end
bounds-work-end c = search (rules, children_cases)

pub overflow_sub-result : goal.overflow_sub-result
overflow_sub-result c = search (rules, children_cases)

pub returns : goal.returns
returns c = search (rules, children_cases)
