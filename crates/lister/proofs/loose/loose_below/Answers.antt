use borrow.Author.Rules.{rules}
use Rattle.lister.proofs.ListReturns.{loose_cases}
use Rattle.lister.proofs.loose.loose_below.Goals as goal

pub loop-n-init : goal.loop-n-init
loop-n-init c = search (rules, loose_cases)

pub returns-in_default : goal.returns-in_default
returns-in_default c = search (rules, loose_cases)

pub overflow_add-count : goal.overflow_add-count
overflow_add-count c = search (rules, loose_cases)

pub loop-n-preserved : goal.loop-n-preserved
loop-n-preserved c = search (rules, loose_cases)

pub returns : goal.returns
returns c = search (rules, loose_cases)
