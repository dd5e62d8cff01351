use borrow.Author.Rules.{rules}
use Rattle.encode.proofs.SizeReturns.{tree_size_cases}
use Rattle.encode.proofs.size.literal_size.Goals as goal

pub returns-then-is_short : goal.returns-then-is_short
returns-then-is_short c = search (rules, tree_size_cases)

pub returns-then-is_raw_kind : goal.returns-then-is_raw_kind
returns-then-is_raw_kind c = search (rules, tree_size_cases)

pub returns-else-is_raw_kind : goal.returns-else-is_raw_kind
returns-else-is_raw_kind c = search (rules, tree_size_cases)
