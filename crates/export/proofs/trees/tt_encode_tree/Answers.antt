use borrow.Author.Rules.{rules}
use Rattle.export.proofs.Cases.{tree_cases}
use Rattle.export.proofs.trees.tt_encode_tree.Goals as goal

pub returns-in-Err : goal.returns-in-Err
returns-in-Err c = search (rules, tree_cases)

pub returns-in-Ok : goal.returns-in-Ok
returns-in-Ok c = search (rules, tree_cases)
