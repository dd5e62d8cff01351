use Prim.Native.Nat.{◌≤◌}
use mathlib.Core.Path.{◌≡◌}
use Rattle.format.specs.Cursor.{nested_in}
use Rattle.cursor.specs.Open.{opened}
use Rattle.cursor.proofs.open.nested.Given as goal

abbrev pub invariant-loop-left : goal.invariant-loop-left
invariant-loop-left l =
    (l.left ≤ 256) × (nested_in l.initial.from l.initial.place l.initial.to (opened l.numbers l.counts l.places l.initial.left) ≡ nested_in l.from l.place l.to (opened l.numbers l.counts l.places l.left))

abbrev pub decreases-loop-left : goal.decreases-loop-left
decreases-loop-left l = l.left
