use borrow.Author.Rules.{rules}
use Rattle.distinct.proofs.SelectReturns.{number_cases}
use Rattle.distinct.proofs.select.number.Goals as goal

pub returns-then-symbols : goal.returns-then-symbols
returns-then-symbols c = search (rules, number_cases)

pub overflow_mul-result : goal.overflow_mul-result
overflow_mul-result c = search (rules, number_cases)

pub returns : goal.returns
returns c = search (rules, number_cases)
