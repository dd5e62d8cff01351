use Rattle.format.specs.MakeTables.{key_count}
use Rattle.keys.specs.Runs.{Behind}
use Rattle.distinct.specs.Classes.{Held}
use Prim.Native.Nat.{◌≤◌}
use Rattle.distinct.proofs.classes.by_class.Given as goal

abbrev pub invariant-loop-k : goal.invariant-loop-k
invariant-loop-k l = (l.p ≤ key_count l.keys.list.now l.keys.symbols) × Held l.keys.list.now l.keys.symbols l.classes l.k l.p l.words l.tallies × Behind l.p l.initial.words l.words × Behind l.p l.initial.tallies l.tallies
