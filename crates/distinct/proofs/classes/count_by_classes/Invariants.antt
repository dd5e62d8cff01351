use Prim.Native.Nat.{◌-◌, ◌≤◌, ◌<◌}
use Rattle.distinct.proofs.classes.count_by_classes.Given as goal

abbrev pub invariant-loop-classes : goal.invariant-loop-classes
invariant-loop-classes l = (1 < l.classes) × (l.classes ≤ 512)

abbrev pub decreases-loop-classes : goal.decreases-loop-classes
decreases-loop-classes l = 512 - l.classes
