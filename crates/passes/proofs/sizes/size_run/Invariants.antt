use Prim.Native.Nat.{◌≤◌}
use Rattle.passes.specs.Runs.{mode_by}
use Rattle.passes.specs.Run.{Sized, Beyond}
use Rattle.passes.proofs.sizes.size_run.Given as goal

abbrev pub invariant-loop-n : goal.invariant-loop-n
invariant-loop-n l = (l.from ≤ l.n) × Sized (mode_by l.tables) l.l l.n l.work × Beyond l.l l.work l.initial.work
