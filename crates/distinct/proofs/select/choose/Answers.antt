use borrow.Author.Rules.{rules}
use Rattle.distinct.proofs.SelectReturns.{choose_cases, choose_live, choose_dead}
use Rattle.distinct.proofs.select.choose.Goals as goal

pub offset_bounds-chosen-m : goal.offset_bounds-chosen-m
offset_bounds-chosen-m c = search (rules, choose_cases)

pub bounds-chosen-m : goal.bounds-chosen-m
bounds-chosen-m c = search (rules, choose_cases)

pub overflow_add-result : goal.overflow_add-result
overflow_add-result c = search (rules, choose_cases)

pub returns-then-is_live_in : goal.returns-then-is_live_in
returns-then-is_live_in c = choose_live _ _ _ _ _ _ _ _ c.requires.selected _ c.requires.v_room c.is_live_in.ensures c.if-is_live_in.true

pub returns-else-is_live_in : goal.returns-else-is_live_in
returns-else-is_live_in c = choose_dead _ _ _ _ _ _ _ _ c.requires.selected _ c.requires.v_room c.is_live_in.ensures c.if-is_live_in.false
