use mathlib.Core.Path.{◌≡◌}
use Rattle.passes.specs.Run.{first_absent}
use Rattle.passes.specs.Runs.{mode_by}
use Rattle.passes.proofs.five.first_absent.Given as goal

abbrev pub invariant-loop-n : goal.invariant-loop-n
invariant-loop-n l = first_absent (mode_by l.tables) l.l l.from l.stop ≡ first_absent (mode_by l.tables) l.l l.n l.stop
