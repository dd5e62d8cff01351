use borrow.Author.Rules.{rules}
use Rattle.encode.proofs.ListedReturns.{listed_size_cases}
use Rattle.encode.proofs.listed.listed_size.Goals as goal

pub returns-in-2 : goal.returns-in-2
returns-in-2 c = search (rules, listed_size_cases)

pub returns-in-0 : goal.returns-in-0
returns-in-0 c = search (rules, listed_size_cases)

pub returns-in_default : goal.returns-in_default
returns-in_default c = search (rules, listed_size_cases)
