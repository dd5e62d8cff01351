use borrow.Author.Rules.{rules}
use Rattle.distinct.proofs.ClassReturns.{number_cases}
use Rattle.distinct.proofs.classes.count_by_class.Goals as goal

pub loop-k-init : goal.loop-k-init
loop-k-init c = search (rules, number_cases)

pub count_in-requires : goal.count_in-requires
count_in-requires c = search (rules, number_cases)

pub overflow_add-p : goal.overflow_add-p
overflow_add-p c = search (rules, number_cases)

pub loop-k-preserved : goal.loop-k-preserved
loop-k-preserved c = search (rules, number_cases)

pub returns : goal.returns
returns c = search (rules, number_cases)
