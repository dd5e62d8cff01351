use borrow.Author.Rules.{rules}
use Rattle.lister.proofs.DepthReturns.{push_cases}
use Rattle.lister.proofs.depth.open_tree.Goals as goal

pub returns-in_default : goal.returns-in_default
returns-in_default c = search (rules, push_cases)

pub overflow_add-ends : goal.overflow_add-ends
overflow_add-ends c = search (rules, push_cases)

pub overflow_add-ends-2 : goal.overflow_add-ends-2
overflow_add-ends-2 c = search (rules, push_cases)

pub bounds-ends-depth : goal.bounds-ends-depth
bounds-ends-depth c = search (rules, push_cases)

pub returns : goal.returns
returns c = search (rules, push_cases)
