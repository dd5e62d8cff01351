use Rattle.std.proofs.Common.{◌-◌, ◌≤◌}
use Rattle.places.specs.Portion.{placed}
use Rattle.places.proofs.stream.place_run.Given as goal

abbrev pub invariant-loop-first : goal.invariant-loop-first
invariant-loop-first l = record {
  in_run : l.first ≤ l.m;
  placed : placed l.table l.run l.first l.out;
}

abbrev pub decreases-loop-first : goal.decreases-loop-first
decreases-loop-first l = l.m - l.first
