use borrow.Author.Rules.{rules}
use Rattle.encode.proofs.EncodePut.{subtree_cases}
use Rattle.encode.proofs.encode.put_close.Goals as goal

pub returns : goal.returns
returns c = search (rules, subtree_cases)
