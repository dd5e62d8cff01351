use Rattle.std.proofs.Common.{ap, ◌∙◌}
use Rattle.std.proofs.lemmas.Result.{err_from_is_err_and}
use Rattle.tree.specs.Refusal.{verdict_answer}
use Rattle.builder.proofs.StepReturns.{first_refused, first_passed}
use Rattle.builder.proofs.RestoreReturns.{point_is}
use Rattle.builder.specs.State.{seen}
use Rattle.builder.proofs.state.Builder.point_fits.Goals as goal

pub returns-in_err-closed_fit : goal.returns-in_err-closed_fit
returns-in_err-closed_fit c =
    let p = err_from_is_err_and c.from_residual.result c.from_residual.ensures.1 in
    rw (p.1, p.2) (first_refused _ _ _ c.closed_fit.ensures _ c.in_err-closed_fit.was ∙ ap verdict_answer (point_is c.args.list.now (seen c.args.self.now) c.args.point))

pub returns : goal.returns
returns c = first_passed _ _ _ c.closed_fit.ensures c.in_ok-closed_fit.was _ (rw c.open_before.ensures at c.rule.ensures) ∙ ap verdict_answer (point_is c.args.list.now (seen c.args.self.now) c.args.point)
