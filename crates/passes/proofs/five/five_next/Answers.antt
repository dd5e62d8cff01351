use native.Mathlib.Omega.{arith}
use Rattle.std.proofs.lemmas.Result.{err_from_is_err_and}
use Rattle.passes.proofs.FiveReturns.{run_passed, run_refused}
use Rattle.passes.proofs.five.five_next.Goals as goal

pub returns-in_err-run_five-clause-err : goal.returns-in_err-run_five-clause-err
returns-in_err-run_five-clause-err c =
    let p = err_from_is_err_and c.from_residual.result c.from_residual.ensures.1 in
    rw (p.1, p.2) (run_refused _ _ _ _ (omega arith) (omega arith) _ c.in_err-run_five.ensures)

pub returns-clause-ok : goal.returns-clause-ok
returns-clause-ok c = (omega arith, omega arith, run_passed _ _ _ _ (omega arith) (omega arith) c.in_ok-run_five.ensures)
