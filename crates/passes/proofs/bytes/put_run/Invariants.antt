use Rattle.passes.specs.Run.{Advanced}
use Rattle.format.specs.Builder.{holding_all}
use Rattle.passes.specs.Runs.{mode_by}
use Rattle.passes.proofs.bytes.put_run.Given as goal

abbrev pub invariant-loop-n : goal.invariant-loop-n
invariant-loop-n l = Advanced (mode_by l.tables) (holding_all l.l) l.from l.n l.initial.out l.out
