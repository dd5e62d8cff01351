use Rattle.std.proofs.Common.{arith, sym, ◌∙◌}
use Rattle.std.proofs.lemmas.Result.{err_from_is_err_and}
use Rattle.tree.proofs.Answers.{answer_passed, answer_refused}
use Rattle.builder.proofs.RestoreReturns.{point_fits_u32, point_taken, point_10}
use Rattle.builder.proofs.state.Builder.restore_point.Goals as goal

pub returns-in_err-rule : goal.returns-in_err-rule
returns-in_err-rule c =
    let p = err_from_is_err_and c.from_residual.result c.from_residual.ensures.1 in
    rw (p.1, p.2) (point_10 _ _ _ _ _ (answer_refused _ _ (sym (rw c.disagrees.ensures at c.rule.ensures) ∙ c.in_err-rule.was)))

pub overflow_cast-result : goal.overflow_cast-result
overflow_cast-result c = let h = point_fits_u32 _ _ _ _ (answer_passed _ (sym (rw c.disagrees.ensures at c.rule.ensures) ∙ c.in_ok-rule.was)) in omega arith

pub returns : goal.returns
returns c = point_taken _ _ _ _ (answer_passed _ (sym (rw c.disagrees.ensures at c.rule.ensures) ∙ c.in_ok-rule.was))
