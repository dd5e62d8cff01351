use borrow.Author.Rules.{rules}
use Rattle.cursor.proofs.PlanReturns.{shut_cases}
use Rattle.cursor.proofs.plan.shut.Goals as goal

pub returns-then-subtree-count : goal.returns-then-subtree-count
returns-then-subtree-count c = search (rules, shut_cases)

pub returns-in-Leaf : goal.returns-in-Leaf
returns-in-Leaf c = search (rules, shut_cases)

pub returns-else-subtree-count : goal.returns-else-subtree-count
returns-else-subtree-count c = search (rules, shut_cases)
