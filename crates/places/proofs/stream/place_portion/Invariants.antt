use Rattle.std.proofs.Common.{◌+◌}
use Rattle.places.specs.Portion.{midway}
use Rattle.places.proofs.stream.place_portion.Given as goal

abbrev pub invariant-loop-e : goal.invariant-loop-e
invariant-loop-e l = midway l.p l.p.first l.e l.out

abbrev pub invariant-loop-i : goal.invariant-loop-i
invariant-loop-i l = midway l.p (l.p.first + l.i) l.p.table.len l.out
