use Rattle.places.specs.Keys.{keys_of}
use Rattle.places.specs.Index.{Held}
use Rattle.places.proofs.index.load.Given as goal

abbrev pub invariant-loop-i : goal.invariant-loop-i
invariant-loop-i l = Held (keys_of l.keys) l.i l.slots
