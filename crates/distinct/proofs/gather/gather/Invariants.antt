use Rattle.distinct.specs.Select.{number_of}
use Rattle.distinct.specs.Gathered.{Filled}
use lib.ListN.{length}
use mathlib.Core.Path.{◌≡◌}
use Prim.Native.Nat.{◌-◌, ◌≤◌}
use Rattle.distinct.proofs.gather.gather.Given as goal

abbrev pub invariant-loop-t : goal.invariant-loop-t
invariant-loop-t l = (l.t ≤ l.trees) × (l.p ≤ length l.initial.firsts) × (length l.table ≡ length l.initial.table) × (length l.firsts ≡ length l.initial.firsts) × (length l.counts ≡ length l.initial.counts) × Filled l.keys.list.now l.keys.symbols l.classes l.class (length l.initial.table) (number_of l.keys.symbols l.t) l.p l.table l.firsts l.counts

abbrev pub decreases-loop-t : goal.decreases-loop-t
decreases-loop-t l = l.trees - l.t
