use Rattle.distinct.specs.Classes.{Scratched}
use lib.ListN.{length}
use mathlib.Core.Path.{◌≡◌}
use Prim.Native.Nat.{◌-◌, ◌≤◌, ◌<◌}
use Rattle.distinct.proofs.classes.by_classes.Given as goal

abbrev pub invariant-loop-classes : goal.invariant-loop-classes
invariant-loop-classes l = (1 < l.classes) × (l.classes ≤ 512) × (length l.words ≡ length l.initial.words) × (length l.tallies ≡ length l.initial.tallies) × Scratched l.keys.list.now l.keys.symbols l.initial.words l.words l.initial.tallies l.tallies

abbrev pub decreases-loop-classes : goal.decreases-loop-classes
decreases-loop-classes l = 512 - l.classes
