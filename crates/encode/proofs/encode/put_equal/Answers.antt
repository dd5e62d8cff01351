use borrow.Author.Rules.{rules}
use Rattle.encode.proofs.EncodePut.{leaf_cases}
use Rattle.encode.proofs.encode.put_equal.Goals as goal

pub returns : goal.returns
returns c = search (rules, leaf_cases)
