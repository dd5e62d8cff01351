use borrow.Author.Rules.{rules}
use Rattle.encode.proofs.ListedReturns.{listed_put_cases}
use Rattle.encode.proofs.listed.put_listed.Goals as goal

pub put_punct-requires : goal.put_punct-requires
put_punct-requires c = search (rules, listed_put_cases)

pub put_ident-requires : goal.put_ident-requires
put_ident-requires c = search (rules, listed_put_cases)

pub put_literal-requires : goal.put_literal-requires
put_literal-requires c = search (rules, listed_put_cases)

pub put_subtree-requires : goal.put_subtree-requires
put_subtree-requires c = search (rules, listed_put_cases)

pub returns-in-0 : goal.returns-in-0
returns-in-0 c = search (rules, listed_put_cases)

pub returns-in-1 : goal.returns-in-1
returns-in-1 c = search (rules, listed_put_cases)

pub returns-in-2 : goal.returns-in-2
returns-in-2 c = search (rules, listed_put_cases)

pub returns-in_default : goal.returns-in_default
returns-in_default c = search (rules, listed_put_cases)
