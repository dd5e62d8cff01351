use Rattle.keys.specs.Keys.{live_in}
use Rattle.distinct.specs.Select.{Selected}
use Prim.Native.Nat.{◌*◌}
use Rattle.distinct.proofs.select.select_parts.Given as goal

abbrev pub invariant-loop-i : goal.invariant-loop-i
invariant-loop-i l = Selected (live_in l.keys.list.now l.keys.symbols 1 0) (2 * l.t) (2 * l.i) l.m l.chosen
