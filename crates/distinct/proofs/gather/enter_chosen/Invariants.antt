use Rattle.distinct.specs.Select.{lead_of}
use Rattle.distinct.specs.Gathered.{Filled}
use lib.ListN.{length}
use Prim.Native.Nat.{◌≤◌}
use Rattle.distinct.proofs.gather.enter_chosen.Given as goal

abbrev pub invariant-loop-j : goal.invariant-loop-j
invariant-loop-j l = (l.k ≤ length l.initial.firsts) × Filled l.keys.list.now l.keys.symbols l.classes l.class (length l.initial.table) (lead_of l.chosen l.from l.j) l.k l.table l.firsts l.counts
