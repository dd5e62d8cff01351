use borrow.Author.Rules.{rules}
use Rattle.encode.proofs.SizeReturns.{tree_size_cases}
use Rattle.encode.proofs.size.punct_size.Goals as goal

pub returns-then-p-lt-ASCII : goal.returns-then-p-lt-ASCII
returns-then-p-lt-ASCII c = search (rules, tree_size_cases)

pub returns-else-p-lt-ASCII : goal.returns-else-p-lt-ASCII
returns-else-p-lt-ASCII c = search (rules, tree_size_cases)
