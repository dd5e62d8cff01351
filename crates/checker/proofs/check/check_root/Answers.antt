use borrow.Author.Rules.{rules}
use Rattle.checker.proofs.CheckReturns.{root_cases}
use Rattle.checker.proofs.check.check_root.Goals as goal

pub returns-then-o-sizes : goal.returns-then-o-sizes
returns-then-o-sizes c = search (rules, root_cases)

pub check_subtree-requires-clause-at_place : goal.check_subtree-requires-clause-at_place
check_subtree-requires-clause-at_place c = search (rules, root_cases)

pub returns-in-Err : goal.returns-in-Err
returns-in-Err c = search (rules, root_cases)

pub returns-in-Ok-Leaf : goal.returns-in-Ok-Leaf
returns-in-Ok-Leaf c = search (rules, root_cases)

pub returns-else-o-sizes : goal.returns-else-o-sizes
returns-else-o-sizes c = search (rules, root_cases)
