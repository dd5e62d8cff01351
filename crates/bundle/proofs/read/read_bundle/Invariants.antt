use Prim.Native.Nat.{◌-◌}
use lib.ListN.{length}
use Rattle.bundle.proofs.Records.{Counted}
use Rattle.bundle.proofs.read.read_bundle.Given as goal

abbrev pub invariant-loop-at : goal.invariant-loop-at
invariant-loop-at l = Counted l.b l.parts l.symbols l.at

abbrev pub decreases-loop-at : goal.decreases-loop-at
decreases-loop-at l = length l.b - l.at
