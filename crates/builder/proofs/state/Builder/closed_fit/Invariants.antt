use Rattle.std.proofs.Common.{◌≡◌}
use Rattle.builder.specs.Restoring.{closed_from}
use Rattle.builder.specs.State.{seen}
use Rattle.builder.proofs.state.Builder.closed_fit.Given as goal

abbrev pub invariant-loop-i : goal.invariant-loop-i
invariant-loop-i l = closed_from l.list (seen l.self) l.n 1 ≡ closed_from l.list (seen l.self) l.n l.i
