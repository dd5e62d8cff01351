use Rattle.std.proofs.Common.{◌≡◌, ◌+◌, ◌≤◌, length}
use Rattle.format.specs.Builder.{open_before}
use Rattle.builder.specs.State.{numbers}
use Rattle.builder.proofs.state.Builder.open_before.Given as goal

abbrev pub invariant-loop-d : goal.invariant-loop-d
invariant-loop-d l = record {
  few : l.k + l.d ≤ l.self.depth;
  same : length (open_before l.n (numbers l.self.opened l.self.depth)) ≡ l.k + length (open_before l.n (numbers l.self.opened l.d));
}
