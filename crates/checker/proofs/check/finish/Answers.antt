use borrow.Author.Rules.{rules}
use Rattle.checker.proofs.CheckReturns.{finish_cases}
use Rattle.checker.proofs.check.finish.Goals as goal

pub returns-then-ran-b : goal.returns-then-ran-b
returns-then-ran-b c = search (rules, finish_cases)

pub returns-then-ran-sizes : goal.returns-then-ran-sizes
returns-then-ran-sizes c = search (rules, finish_cases)

pub returns : goal.returns
returns c = search (rules, finish_cases)
