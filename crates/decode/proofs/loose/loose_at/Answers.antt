use borrow.Author.Rules.{rules}
use Rattle.decode.proofs.LooseReturns.{loose_at_cases}
use Rattle.decode.proofs.loose.loose_at.Goals as goal

pub returns : goal.returns
returns c = search (rules, loose_at_cases)
