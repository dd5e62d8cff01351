use Rattle.places.specs.Places.{AsOpen}
use Rattle.places.proofs.closes.all_close_as_open.Given as goal

abbrev pub invariant-loop-i : goal.invariant-loop-i
invariant-loop-i l = AsOpen l.l l.from l.i
