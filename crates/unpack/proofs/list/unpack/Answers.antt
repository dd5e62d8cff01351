use borrow.Author.Rules.{rules}
use Rattle.unpack.proofs.ListReturns.{unpack_cases}
use Rattle.unpack.proofs.list.unpack.Goals as goal

pub returns : goal.returns
returns c = search (rules, unpack_cases)
