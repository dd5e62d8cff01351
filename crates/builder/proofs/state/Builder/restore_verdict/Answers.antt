use Rattle.std.proofs.Common.{sym, ◌∙◌}
use Rattle.std.proofs.lemmas.Result.{err_from_is_err_and}
use Rattle.tree.proofs.Answers.{answer_passed}
use Rattle.builder.proofs.StepReturns.{first_refused, first_passed, passed_is}
use Rattle.builder.proofs.RestoreReturns.{restore_inside, restore_few}
use borrow.Author.Tests.{le-leb, lt-leb}
use Rattle.builder.proofs.state.Builder.restore_verdict.Goals as goal

pub returns-in_err-point_verdict : goal.returns-in_err-point_verdict
returns-in_err-point_verdict c =
    let p = err_from_is_err_and c.from_residual.result c.from_residual.ensures.1 in
    rw (p.1, p.2) (first_refused _ _ _ c.point_verdict.ensures _ c.in_err-point_verdict.was)

pub returns-in_err-rule : goal.returns-in_err-rule
returns-in_err-rule c =
    let p = err_from_is_err_and c.from_residual-in_err-rule.result c.from_residual-in_err-rule.ensures.1 in
    rw (p.1, p.2) (first_passed _ _ _ c.point_verdict.ensures c.in_ok-point_verdict.was _ (first_refused _ _ _ c.rule.ensures _ c.in_err-rule.was))

pub returns-then-self-point : goal.returns-then-self-point
returns-then-self-point c = first_passed _ _ _ c.point_verdict.ensures c.in_ok-point_verdict.was _ (first_passed _ _ _ c.rule.ensures c.in_ok-rule.was _ (passed_is _ (simp (le-leb _ _ c.if-self-point.true))))

pub point_fits-requires : goal.point_fits-requires
point_fits-requires c = (restore_inside _ _ _ _ (answer_passed _ (sym c.point_verdict.ensures ∙ c.in_ok-point_verdict.was)) _ c.if-self-point.false, restore_few _ _ _ _ (answer_passed _ (sym c.point_verdict.ensures ∙ c.in_ok-point_verdict.was)))

pub returns-else-self-point : goal.returns-else-self-point
returns-else-self-point c = first_passed _ _ _ c.point_verdict.ensures c.in_ok-point_verdict.was _ (first_passed _ _ _ c.rule.ensures c.in_ok-rule.was _ (rw (lt-leb _ _ c.if-self-point.false) c.point_fits.ensures))
