use mathlib.Core.Path.{refl, ap}
use mathlib.Core.Bool.{not}
use Rattle.std.proofs.lemmas.Result.{err_from_is_err_and}
use Rattle.tidy.proofs.TidyReturns.{check_refused, check_passed, work_room, work_short, written_again}
use Rattle.tidy.proofs.tidy.tidy.Goals as goal

pub returns-in_err-check_buffer : goal.returns-in_err-check_buffer
returns-in_err-check_buffer c =
    let p = err_from_is_err_and c.from_residual.result c.from_residual.ensures.1 in
    rw (p.1, p.2) (check_refused _ _ _ _ _ _ _ _ _ c.in_err-check_buffer.ensures _ refl)

pub returns-then-not-work_fits : goal.returns-then-not-work_fits
returns-then-not-work_fits c = work_short _ _ _ _ _ _ _ _ _ c.in_ok-check_buffer.ensures refl _ c.work_fits.ensures (ap not c.if-not-work_fits.true)

pub write_again-requires-clause-passes : goal.write_again-requires-clause-passes
write_again-requires-clause-passes c = check_passed _ _ _ _ _ c.in_ok-check_buffer.ensures refl

pub write_again-requires-clause-room : goal.write_again-requires-clause-room
write_again-requires-clause-room c = work_room _ _ _ _ _ c.work_fits.ensures (ap not c.if-not-work_fits.false)

pub returns : goal.returns
returns c = written_again _ _ _ _ _ _ _ _ _ c.in_ok-check_buffer.ensures refl _ c.work_fits.ensures (ap not c.if-not-work_fits.false) _ _ _ _ c.write_again.ensures
