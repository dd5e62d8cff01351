use borrow.Author.Rules.{rules}
use Rattle.encode.proofs.SizeReturns.{tree_size_cases}
use Rattle.encode.proofs.size.subtree_size.Goals as goal

pub overflow_sub-p : goal.overflow_sub-p
overflow_sub-p c = search (rules, tree_size_cases)

pub returns-in-Brackets : goal.returns-in-Brackets
returns-in-Brackets c = search (rules, tree_size_cases)

pub returns-in-Equal : goal.returns-in-Equal
returns-in-Equal c = search (rules, tree_size_cases)

pub returns-in-TwoParts : goal.returns-in-TwoParts
returns-in-TwoParts c = search (rules, tree_size_cases)

pub returns-in-Apart : goal.returns-in-Apart
returns-in-Apart c = search (rules, tree_size_cases)
