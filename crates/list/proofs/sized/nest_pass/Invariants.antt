use Prim.Native.Nat.{◌-◌, ◌≤◌}
use Rattle.format.specs.WordList.{list_count}
use Rattle.list.proofs.Returns.{Passing}
use Rattle.list.proofs.sized.nest_pass.Given as goal

abbrev pub invariant-loop-n : goal.invariant-loop-n
invariant-loop-n l = (l.n ≤ list_count l.l) × (l.depth ≤ 256) × Passing l.l l.n l.depth l.ends

abbrev pub decreases-loop-n : goal.decreases-loop-n
decreases-loop-n l = list_count l.l - l.n
