use Rattle.std.proofs.Common.{arith}
use Rattle.places.proofs.IndexReturns.{enter_slot, enter_stored, enter_kept}
use Rattle.places.proofs.index.enter.Goals as goal

pub offset_bounds-slots-s : goal.offset_bounds-slots-s
offset_bounds-slots-s c =
    let h = enter_slot _ _ _ c.requires.held _ c.at-k.ensures _ c.slot_of-start.ensures.0 _ c.look.ensures _ c.in-Empty.is c.slot_of-start.ensures.1 in
    omega arith

pub bounds-slots-s : goal.bounds-slots-s
bounds-slots-s c = enter_slot _ _ _ c.requires.held _ c.at-k.ensures _ c.slot_of-start.ensures.0 _ c.look.ensures _ c.in-Empty.is c.slot_of-start.ensures.1

pub returns-in-Empty : goal.returns-in-Empty
returns-in-Empty c = enter_stored _ _ _ c.requires.held _ c.at-k.ensures _ c.slot_of-start.ensures.0 _ c.look.ensures _ c.in-Empty.is c.slot_of-start.ensures.1

pub returns-in_default : goal.returns-in_default
returns-in_default c =
    enter_kept _ _ _ c.requires.held _ c.at-k.ensures _ c.slot_of-start.ensures.0 _ c.look.ensures c.in_default.not-Empty c.slot_of-start.ensures.1 (omega arith)
