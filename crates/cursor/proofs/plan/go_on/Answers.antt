use borrow.Author.Rules.{rules}
use Rattle.cursor.proofs.PlanReturns.{go_cases}
use Rattle.cursor.proofs.plan.go_on.Goals as goal

pub returns-then-buffer-at : goal.returns-then-buffer-at
returns-then-buffer-at c = search (rules, go_cases)

pub returns-in-Ok : goal.returns-in-Ok
returns-in-Ok c = search (rules, go_cases)

pub returns-in-Err : goal.returns-in-Err
returns-in-Err c = search (rules, go_cases)
