use Rattle.std.proofs.Common.{◌≡◌}
use Rattle.list.specs.Pass.{fields_from}
use Rattle.list.proofs.sized.row_two.Given as goal

abbrev pub invariant-loop-n : goal.invariant-loop-n
invariant-loop-n l = fields_from l.l 0 ≡ fields_from l.l l.n
