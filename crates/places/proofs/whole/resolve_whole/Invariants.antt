use Rattle.places.specs.Places.{Resolved}
use Rattle.places.specs.Tables.{mode_below}
use Rattle.places.proofs.whole.resolve_whole.Given as goal

abbrev pub invariant-loop-i : goal.invariant-loop-i
invariant-loop-i l = Resolved (mode_below l.tables) l.l l.from l.i l.opens l.closes l.syms
