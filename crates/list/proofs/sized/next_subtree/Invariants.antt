use Rattle.std.proofs.Common.{◌≡◌}
use Rattle.list.specs.Pass.{next_sub}
use Rattle.list.proofs.sized.next_subtree.Given as goal

abbrev pub invariant-loop-n : goal.invariant-loop-n
invariant-loop-n l = next_sub l.l l.from ≡ next_sub l.l l.n
