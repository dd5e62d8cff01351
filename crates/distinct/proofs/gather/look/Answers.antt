use borrow.Author.Rules.{rules}
use Rattle.distinct.proofs.GatherReturns.{rank_cases}
use Rattle.distinct.proofs.gather.look.Goals as goal

pub loop-left-init : goal.loop-left-init
loop-left-init c = search (rules, rank_cases)

pub offset_bounds-table-s : goal.offset_bounds-table-s
offset_bounds-table-s c = search (rules, rank_cases)

pub bounds-table-s : goal.bounds-table-s
bounds-table-s c = search (rules, rank_cases)

pub returns-then-e-eq0 : goal.returns-then-e-eq0
returns-then-e-eq0 c = search (rules, rank_cases)

pub offset_bounds-firsts-e : goal.offset_bounds-firsts-e
offset_bounds-firsts-e c = search (rules, rank_cases)

pub bounds-firsts-e : goal.bounds-firsts-e
bounds-firsts-e c = search (rules, rank_cases)

pub alike-requires : goal.alike-requires
alike-requires c = search (rules, rank_cases)

pub overflow_sub-result : goal.overflow_sub-result
overflow_sub-result c = search (rules, rank_cases)

pub returns-then-alike : goal.returns-then-alike
returns-then-alike c = search (rules, rank_cases)

pub next_slot-s-requires : goal.next_slot-s-requires
next_slot-s-requires c = search (rules, rank_cases)

pub loop-left-preserved : goal.loop-left-preserved
loop-left-preserved c = search (rules, rank_cases)

pub returns : goal.returns
returns c = search (rules, rank_cases)
