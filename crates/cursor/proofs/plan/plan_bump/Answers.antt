use borrow.Author.Rules.{rules}
use Rattle.cursor.proofs.PlanReturns.{plan_cases}
use Rattle.cursor.proofs.plan.plan_bump.Goals as goal

pub returns-then-not-agrees : goal.returns-then-not-agrees
returns-then-not-agrees c = search (rules, plan_cases)

pub returns-then-closes_last : goal.returns-then-closes_last
returns-then-closes_last c = search (rules, plan_cases)

pub returns : goal.returns
returns c = search (rules, plan_cases)
