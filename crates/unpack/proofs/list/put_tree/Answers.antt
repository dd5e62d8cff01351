use borrow.Author.Rules.{rules}
use Rattle.unpack.proofs.ListReturns.{tree_cases}
use Rattle.unpack.proofs.list.put_tree.Goals as goal

pub returns-clause-words : goal.returns-clause-words
returns-clause-words c = search (rules, tree_cases)
