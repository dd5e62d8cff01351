use borrow.Author.Rules.{rules}
use Rattle.distinct.proofs.GatherReturns.{enter_cases}
use Rattle.distinct.proofs.gather.join.Goals as goal

pub overflow_add-next : goal.overflow_add-next
overflow_add-next c = search (rules, enter_cases)

pub overflow_cast-next : goal.overflow_cast-next
overflow_cast-next c = search (rules, enter_cases)

pub set_at-requires : goal.set_at-requires
set_at-requires c = search (rules, enter_cases)

pub overflow_cast-v : goal.overflow_cast-v
overflow_cast-v c = search (rules, enter_cases)

pub set_at-requires-2 : goal.set_at-requires-2
set_at-requires-2 c = search (rules, enter_cases)

pub set_at-requires-3 : goal.set_at-requires-3
set_at-requires-3 c = search (rules, enter_cases)
