use borrow.Author.Rules.{rules}
use Rattle.measure.proofs.SumReturns.{walk_sum_cases}
use Rattle.measure.proofs.walks.walk_sum.Goals as goal

pub returns-in-Err : goal.returns-in-Err
returns-in-Err c = search (rules, walk_sum_cases)
