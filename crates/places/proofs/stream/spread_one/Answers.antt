use Rattle.std.proofs.Common.{arith, refl}
use Rattle.places.proofs.StreamReturns.{found_room, spread_found}
use Rattle.places.proofs.stream.spread_one.Goals as goal

pub overflow_add-out : goal.overflow_add-out
overflow_add-out c = let h = found_room _ _ _ _ _ _ _ _ _ _ _ _ c.requires.midway _ _ c.find.ensures _ c.in-Some.is in omega arith

pub offset_bounds-out-p : goal.offset_bounds-out-p
offset_bounds-out-p c = let h = found_room _ _ _ _ _ _ _ _ _ _ _ _ c.requires.midway _ _ c.find.ensures _ c.in-Some.is in omega arith

pub bounds-out-p : goal.bounds-out-p
bounds-out-p c = found_room _ _ _ _ _ _ _ _ _ _ _ _ c.requires.midway _ _ c.find.ensures _ c.in-Some.is

pub returns-in-Some : goal.returns-in-Some
returns-in-Some c = spread_found _ _ _ _ _ _ _ _ _ _ _ c.requires.i_in_portion c.requires.midway _ c.at-k.ensures _ c.find.ensures _ c.in-Some.is _ refl
