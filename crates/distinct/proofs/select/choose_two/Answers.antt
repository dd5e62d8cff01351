use borrow.Author.Rules.{rules}
use Rattle.distinct.proofs.SelectReturns.{choose_cases}
use Rattle.distinct.proofs.select.choose_two.Goals as goal

pub overflow_mul-v : goal.overflow_mul-v
overflow_mul-v c = search (rules, choose_cases)

pub choose-k-requires : goal.choose-k-requires
choose-k-requires c = search (rules, choose_cases)

pub choose-requires : goal.choose-requires
choose-requires c = search (rules, choose_cases)

pub returns : goal.returns
returns c = search (rules, choose_cases)
