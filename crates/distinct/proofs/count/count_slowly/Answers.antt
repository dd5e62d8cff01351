use Rattle.distinct.proofs.CountReturns.{count_cases}
use borrow.Author.Rules.{rules}
use Rattle.distinct.proofs.count.count_slowly.Goals as goal

pub loop-v-init : goal.loop-v-init
loop-v-init c = search (rules, count_cases)

pub is_fresh-requires : goal.is_fresh-requires
is_fresh-requires c = search (rules, count_cases)

pub overflow_add-p : goal.overflow_add-p
overflow_add-p c = search (rules, count_cases)

pub loop-v-preserved : goal.loop-v-preserved
loop-v-preserved c = search (rules, count_cases)

pub returns : goal.returns
returns c = search (rules, count_cases)
