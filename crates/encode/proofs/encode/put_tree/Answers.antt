use borrow.Author.Rules.{rules}
use Rattle.encode.proofs.EncodeTree.{passed_cases}
use Rattle.encode.proofs.encode.put_tree.Goals as goal

pub put_punct-requires : goal.put_punct-requires
put_punct-requires c = search (rules, passed_cases)

pub put_ident-requires : goal.put_ident-requires
put_ident-requires c = search (rules, passed_cases)

pub put_literal-requires : goal.put_literal-requires
put_literal-requires c = search (rules, passed_cases)

pub put_subtree-requires : goal.put_subtree-requires
put_subtree-requires c = search (rules, passed_cases)

pub returns-in-Punct : goal.returns-in-Punct
returns-in-Punct c = search (rules, passed_cases)

pub returns-in-Ident : goal.returns-in-Ident
returns-in-Ident c = search (rules, passed_cases)

pub returns-in-Literal : goal.returns-in-Literal
returns-in-Literal c = search (rules, passed_cases)

pub returns-in-Subtree : goal.returns-in-Subtree
returns-in-Subtree c = search (rules, passed_cases)
