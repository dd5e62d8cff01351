use borrow.Author.Rules.{rules}
use Rattle.cursor.proofs.MovesReturns.{apply_cases}
use Rattle.cursor.proofs.lent.enter.Goals as goal

pub returns : goal.returns
returns c = search (rules, apply_cases)
