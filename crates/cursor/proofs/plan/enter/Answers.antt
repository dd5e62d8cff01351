use borrow.Author.Rules.{rules}
use Rattle.cursor.proofs.PlanReturns.{enter_cases}
use Rattle.cursor.proofs.plan.enter.Goals as goal

pub returns-then-at-ge-MOST_OPEN : goal.returns-then-at-ge-MOST_OPEN
returns-then-at-ge-MOST_OPEN c = search (rules, enter_cases)

pub returns-in-Punct : goal.returns-in-Punct
returns-in-Punct c = search (rules, enter_cases)

pub returns-in-Ident : goal.returns-in-Ident
returns-in-Ident c = search (rules, enter_cases)

pub returns-in-Literal : goal.returns-in-Literal
returns-in-Literal c = search (rules, enter_cases)

pub returns-else-at-ge-MOST_OPEN : goal.returns-else-at-ge-MOST_OPEN
returns-else-at-ge-MOST_OPEN c = search (rules, enter_cases)
