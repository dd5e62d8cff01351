use mathlib.Core.Path.{refl, ap, ◌∙◌}
use Rattle.std.specs.Prelude.{Err}
use Rattle.std.proofs.lemmas.Result.{err_from_is_err_and}
use borrow.Author.Rules.{rules}
use Rattle.format.specs.Buffer.{raw_shape}
use Rattle.checker.specs.Glance.{reader_of}
use Rattle.checker.proofs.CheckReturns.{run_cases, run_stopped, run_more, kids_place}
use Rattle.checker.proofs.check.+check_run_check_subtree.Goals as goal

pub check_run-returns-in-Err : goal.check_run-returns-in-Err
check_run-returns-in-Err t c = search (rules, run_cases)

pub check_run-loop-tree-preserved-in-Ok-Leaf : goal.check_run-loop-tree-preserved-in-Ok-Leaf
check_run-loop-tree-preserved-in-Ok-Leaf t c = search (rules, run_cases)

pub check_run-returns-in_err-below-in-Ok-Subtree : goal.check_run-returns-in_err-below-in-Ok-Subtree
check_run-returns-in_err-below-in-Ok-Subtree t c =
    let p = err_from_is_err_and c.from_residual.result c.from_residual.ensures.1 in
    run_stopped raw_shape (reader_of c.args.b.now c.args.sizes) _ _ _ _ _ _ _ c.loop-tree.invariant _ c.check_subtree.result c.check_subtree.ensures _ c.in_err-below-in-Ok-Subtree.was _ (p.1 ∙ ap Err p.2)

pub check_run-loop-tree-smaller : goal.check_run-loop-tree-smaller
check_run-loop-tree-smaller t c = search (rules, run_cases)

pub check_run-loop-tree-preserved : goal.check_run-loop-tree-preserved
check_run-loop-tree-preserved t c = run_more raw_shape (reader_of c.args.b.now c.args.sizes) _ _ _ _ _ _ _ c.loop-tree.invariant _ c.check_subtree.result c.check_subtree.ensures c.in_ok-below-in-Ok-Subtree.below _ c.in_ok-below-in-Ok-Subtree.was c.earlier_wrong-wrong.ensures

pub check_run-returns : goal.check_run-returns
check_run-returns t c = search (rules, run_cases)

pub check_subtree-returns-then-end-n : goal.check_subtree-returns-then-end-n
check_subtree-returns-then-end-n t c = search (rules, run_cases)

pub check_subtree-returns-then-depth-eq0 : goal.check_subtree-returns-then-depth-eq0
check_subtree-returns-then-depth-eq0 t c = search (rules, run_cases)

pub check_subtree-returns-in_err-below : goal.check_subtree-returns-in_err-below
check_subtree-returns-in_err-below t c = search (rules, run_cases)

pub check_subtree-returns-then-below-o : goal.check_subtree-returns-then-below-o
check_subtree-returns-then-below-o t c = search (rules, run_cases)

pub check_subtree-returns : goal.check_subtree-returns
check_subtree-returns t c = search (rules, run_cases)

pub check_subtree-check_run-requires : goal.check_subtree-check_run-requires
check_subtree-check_run-requires t c =
    let i = c in
    (search rules, (search rules, (search rules, kids_place raw_shape (reader_of i.args.b.now i.args.sizes) refl i.args.n i.args.at i.args.o (search rules) (search rules))))
