use borrow.Author.Rules.{rules}
use Rattle.distinct.proofs.SelectReturns.{number_cases}
use Rattle.distinct.proofs.gather.tree_count.Goals as goal

pub returns-then-symbols : goal.returns-then-symbols
returns-then-symbols c = search (rules, number_cases)

pub returns : goal.returns
returns c = search (rules, number_cases)
