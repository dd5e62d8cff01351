use borrow.Author.Rules.{rules}
use Rattle.encode.proofs.EncodeTree.{answer_cases}
use Rattle.encode.proofs.encode.encode_top_subtree.Goals as goal

pub returns-then-not-subtree_fits : goal.returns-then-not-subtree_fits
returns-then-not-subtree_fits c = search (rules, answer_cases)

pub returns-then-not-parts_fit : goal.returns-then-not-parts_fit
returns-then-not-parts_fit c = search (rules, answer_cases)

pub returns-then-not-has_room : goal.returns-then-not-has_room
returns-then-not-has_room c = search (rules, answer_cases)

pub put_top-requires : goal.put_top-requires
put_top-requires c = search (rules, answer_cases)

pub returns : goal.returns
returns c = search (rules, answer_cases)
