use Prim.Native.Nat.{◌+◌, ◌*◌, ◌-◌}
use Rattle.format.proofs.NestRun.{run}
use Rattle.format.specs.Check.{listing}
use Rattle.format.specs.Buffer.{raw_shape}
use Rattle.checker.specs.Descent.{Upto}
use Rattle.checker.specs.Glance.{reader_of}
use Rattle.checker.proofs.check.+check_run_check_subtree.Given as goal

abbrev pub decreases-check_run : goal.decreases-check_run
decreases-check_run l = 2 * l.depth + 1

abbrev pub decreases-check_subtree : goal.decreases-check_subtree
decreases-check_subtree l = 2 * l.depth

abbrev pub invariant-check_run-loop-tree : goal.invariant-check_run-loop-tree
invariant-check_run-loop-tree l =
    Upto raw_shape (reader_of l.b l.sizes) (run raw_shape (listing raw_shape (reader_of l.b l.sizes)) l.n l.end l.depth) l.n l.end l.depth l.tree l.place l.wrong

abbrev pub decreases-check_run-loop-tree : goal.decreases-check_run-loop-tree
decreases-check_run-loop-tree l = l.end - l.tree
