use Rattle.std.proofs.lemmas.Result.{err_from_is_err_and}
use Rattle.builder.proofs.StepReturns.{first_refused, first_passed}
use Rattle.builder.proofs.steps.new_verdict.Goals as goal

pub returns-in_err-rule : goal.returns-in_err-rule
returns-in_err-rule c =
    let p = err_from_is_err_and c.from_residual.result c.from_residual.ensures.1 in
    rw (p.1, p.2) (first_refused _ _ _ (rw (c.span_fits.ensures, c.span_fits-2.ensures) at c.rule.ensures) _ c.in_err-rule.was)

pub returns : goal.returns
returns c = first_passed _ _ _ (rw (c.span_fits.ensures, c.span_fits-2.ensures) at c.rule.ensures) c.in_ok-rule.was _ c.rule-2.ensures
