use borrow.Author.Rules.{rules}
use Rattle.distinct.proofs.SelectReturns.{choose_cases}
use Rattle.distinct.proofs.select.select_parts.Goals as goal

pub overflow_mul-from : goal.overflow_mul-from
overflow_mul-from c = search (rules, choose_cases)

pub loop-i-init : goal.loop-i-init
loop-i-init c = search (rules, choose_cases)

pub choose_two-m-requires : goal.choose_two-m-requires
choose_two-m-requires c = search (rules, choose_cases)

pub loop-i-preserved : goal.loop-i-preserved
loop-i-preserved c = search (rules, choose_cases)

pub returns : goal.returns
returns c = search (rules, choose_cases)
