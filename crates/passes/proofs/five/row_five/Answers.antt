use borrow.Author.Rules.{rules}
use Rattle.passes.proofs.FiveReturns.{five_ends}
use Rattle.passes.proofs.five.row_five.Goals as goal

pub returns-clause-value : goal.returns-clause-value
returns-clause-value c = search (rules, five_ends)
