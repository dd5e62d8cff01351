use Rattle.std.proofs.Common.{arith, refl}
use Rattle.places.proofs.StreamReturns.{portion_begin}
use Rattle.places.proofs.stream.place_run.Goals as goal

pub place_portion-requires : goal.place_portion-requires
place_portion-requires c = record { begun = portion_begin _ _ _ _ _ _ _ _ _ _ c.loop-first.invariant.placed refl (omega arith) }
