use Rattle.std.proofs.Common.{◌≡◌}
use Rattle.format.specs.Builder.{is_among}
use Rattle.builder.specs.State.{numbers}
use Rattle.builder.proofs.state.Builder.is_among.Given as goal

abbrev pub invariant-loop-d : goal.invariant-loop-d
invariant-loop-d l = is_among l.i (numbers l.self.opened l.self.depth) ≡ is_among l.i (numbers l.self.opened l.d)
