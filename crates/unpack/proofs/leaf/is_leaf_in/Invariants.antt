use Prim.Native.Nat.{◌-◌}
use Rattle.unpack.proofs.LeafReturns.{Comes}
use Rattle.unpack.proofs.leaf.is_leaf_in.Given as goal

abbrev pub invariant-loop-m : goal.invariant-loop-m
invariant-loop-m l = Comes l.b l.trees l.limits l.number l.m l.at

abbrev pub decreases-loop-m : goal.decreases-loop-m
decreases-loop-m l = l.number - l.m
