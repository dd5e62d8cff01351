use Rattle.slots.specs.Probe.{probe}
use Rattle.distinct.specs.Gathered.{like_rank}
use lib.ListN.{length}
use mathlib.Core.Path.{◌≡◌}
use Prim.Native.Nat.{◌<◌}
use Rattle.distinct.proofs.gather.look.Given as goal

abbrev pub invariant-loop-left : goal.invariant-loop-left
invariant-loop-left l = (l.s < length l.table) × (probe (length l.table) l.table (like_rank l.keys.list.now l.keys.symbols l.firsts l.v) l.start (length l.table) ≡ probe (length l.table) l.table (like_rank l.keys.list.now l.keys.symbols l.firsts l.v) l.s l._left)
