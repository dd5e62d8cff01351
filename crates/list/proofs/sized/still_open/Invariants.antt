use Rattle.std.proofs.Common.{◌≡◌}
use Rattle.format.specs.Nest.{still_open}
use Rattle.format.proofs.OpenEnds.{open_ends}
use Rattle.list.proofs.sized.still_open.Given as goal

abbrev pub invariant-loop-d : goal.invariant-loop-d
invariant-loop-d l = still_open l.n (open_ends l.ends l.depth) ≡ still_open l.n (open_ends l.ends l.d)
