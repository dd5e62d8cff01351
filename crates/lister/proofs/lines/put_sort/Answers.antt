use borrow.Author.Rules.{rules}
use Rattle.lister.proofs.LinesReturns.{sort_cases}
use Rattle.lister.proofs.lines.put_sort.Goals as goal

pub returns-in-Punct : goal.returns-in-Punct
returns-in-Punct c = search (rules, sort_cases)

pub returns-in-Ident : goal.returns-in-Ident
returns-in-Ident c = search (rules, sort_cases)

pub returns-in-Literal : goal.returns-in-Literal
returns-in-Literal c = search (rules, sort_cases)

pub returns-in-Subtree : goal.returns-in-Subtree
returns-in-Subtree c = search (rules, sort_cases)
