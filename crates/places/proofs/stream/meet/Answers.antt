use Rattle.std.proofs.Common.{arith}
use Rattle.places.proofs.StreamReturns.{found_room, meet_none, meet_found}
use Rattle.places.proofs.stream.meet.Goals as goal

pub overflow_add-p : goal.overflow_add-p
overflow_add-p c = let h = found_room _ _ _ _ _ _ _ _ _ _ _ _ c.requires.midway _ _ c.find.ensures _ c.in-Some.is in omega arith

pub put_first-requires : goal.put_first-requires
put_first-requires c = let h = found_room _ _ _ _ _ _ _ _ _ _ _ _ c.requires.midway _ _ c.find.ensures _ c.in-Some.is in let g = c.args.p.now.table.most in (h, omega arith)

pub returns-in-Some : goal.returns-in-Some
returns-in-Some c = meet_found _ _ _ _ _ _ _ _ _ _ _ c.requires.midway _ c.key_at-k.ensures _ c.find.ensures _ c.in-Some.is c.requires.e_in_table _ c.put_first.ensures

pub returns-in_default : goal.returns-in_default
returns-in_default c = meet_none _ _ _ _ _ _ _ _ _ _ _ c.requires.midway _ c.key_at-k.ensures _ c.find.ensures c.in_default.is
