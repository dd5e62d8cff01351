use borrow.Author.Rules.{rules}
use Rattle.lister.proofs.ListReturns.{tree_cases}
use Rattle.lister.proofs.list.put_tree.Goals as goal

pub open_tree-inside-requires : goal.open_tree-inside-requires
open_tree-inside-requires c = search (rules, tree_cases)

pub returns : goal.returns
returns c = search (rules, tree_cases)
