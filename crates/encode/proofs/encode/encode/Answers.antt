use borrow.Author.Rules.{rules}
use Rattle.encode.proofs.EncodeTree.{answer_cases}
use Rattle.encode.proofs.encode.encode.Goals as goal

pub returns-then-not-tree_fits : goal.returns-then-not-tree_fits
returns-then-not-tree_fits c = search (rules, answer_cases)

pub returns-then-not-indices_fit : goal.returns-then-not-indices_fit
returns-then-not-indices_fit c = search (rules, answer_cases)

pub returns-then-not-has_room : goal.returns-then-not-has_room
returns-then-not-has_room c = search (rules, answer_cases)

pub put_tree-requires : goal.put_tree-requires
put_tree-requires c = search (rules, answer_cases)

pub returns : goal.returns
returns c = search (rules, answer_cases)
