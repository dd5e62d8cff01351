use borrow.Author.Rules.{rules}
use Rattle.encode.proofs.EncodeReturns.{index_cases}
use Rattle.encode.proofs.encode.indices_fit.Goals as goal

pub returns-in-Punct : goal.returns-in-Punct
returns-in-Punct c = search (rules, index_cases)

pub returns-in-Ident : goal.returns-in-Ident
returns-in-Ident c = search (rules, index_cases)

pub returns-in-Literal : goal.returns-in-Literal
returns-in-Literal c = search (rules, index_cases)

pub returns-in-Subtree : goal.returns-in-Subtree
returns-in-Subtree c = search (rules, index_cases)
