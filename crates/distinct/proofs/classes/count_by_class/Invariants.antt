use Rattle.format.specs.MakeTables.{key_count}
use Rattle.distinct.specs.Classes.{below}
use mathlib.Core.Path.{◌≡◌}
use Prim.Native.Nat.{◌≤◌}
use Rattle.distinct.proofs.classes.count_by_class.Given as goal

abbrev pub invariant-loop-k : goal.invariant-loop-k
invariant-loop-k l = (l.p ≤ key_count l.keys.list.now l.keys.symbols) × (l.p ≡ below l.keys.list.now l.keys.symbols l.classes l.k)
