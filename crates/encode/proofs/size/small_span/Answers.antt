use borrow.Author.Rules.{rules}
use Rattle.encode.proofs.SizeReturns.{tree_size_cases}
use Rattle.encode.proofs.size.small_span.Goals as goal

pub returns : goal.returns
returns c = search (rules, tree_size_cases)
