use borrow.Author.Rules.{rules}
use Rattle.cursor.proofs.MovesReturns.{apply_cases}
use Rattle.cursor.proofs.lent.apply.Goals as goal

pub returns-in-Stay : goal.returns-in-Stay
returns-in-Stay c = search (rules, apply_cases)

pub returns-in-On : goal.returns-in-On
returns-in-On c = search (rules, apply_cases)

pub returns-in-Shut : goal.returns-in-Shut
returns-in-Shut c = search (rules, apply_cases)
