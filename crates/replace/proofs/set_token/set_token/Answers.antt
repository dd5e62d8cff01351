use borrow.Author.Rules.{rules}
use Rattle.replace.proofs.SetReturns.{leaf_cases}
use Rattle.replace.proofs.set_token.set_token.Goals as goal

pub returns : goal.returns
returns c = search (rules, leaf_cases)
