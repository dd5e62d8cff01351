use mathlib.Core.Bool.{not}
use mathlib.Core.Path.{refl, ap}
use Rattle.std.proofs.lemmas.Result.{err_from_is_err_and}
use Rattle.replace.proofs.PrepareReturns.{rows_refused, rows_passed, work_short, all_made}
use Rattle.replace.proofs.prepare.prepare.Goals as goal

pub returns-in_err-replace_verdict : goal.returns-in_err-replace_verdict
returns-in_err-replace_verdict c =
    let p = err_from_is_err_and c.from_residual.result c.from_residual.ensures.1 in
    rw (p.1, p.2) (rows_refused _ _ _ _ _ _ _ _ _ _ c.in_err-replace_verdict.ensures _ refl)

pub returns-then-not-work_fits : goal.returns-then-not-work_fits
returns-then-not-work_fits c = work_short _ _ _ _ _ _ _ _ _ _ c.in_ok-replace_verdict.ensures refl _ c.work_fits.ensures (ap not c.if-not-work_fits.true)

pub make_new-requires-clause-passes : goal.make_new-requires-clause-passes
make_new-requires-clause-passes c = rows_passed _ _ _ _ _ _ _ c.in_ok-replace_verdict.ensures refl

pub returns : goal.returns
returns c = all_made _ _ _ _ _ _ _ _ _ _ c.in_ok-replace_verdict.ensures refl _ c.work_fits.ensures (ap not c.if-not-work_fits.false) _ _ _ _ c.make_new.ensures
