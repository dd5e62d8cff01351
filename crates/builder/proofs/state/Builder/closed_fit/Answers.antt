use Rattle.std.proofs.lemmas.Result.{err_from_is_err_and}
use Rattle.builder.proofs.RestoreReturns.{closed_11, closed_again, closed_done}
use Rattle.builder.proofs.state.Builder.closed_fit.Goals as goal

pub returns-in_err-rule : goal.returns-in_err-rule
returns-in_err-rule c =
    let p = err_from_is_err_and c.from_residual.result c.from_residual.ensures.1 in
    rw (p.1, p.2) (closed_11 _ _ _ _ c.loop-i.invariant c.loop-i-test.true _ c.reaches_past.ensures _ c.rule.ensures _ c.in_err-rule.was)

pub loop-i-preserved : goal.loop-i-preserved
loop-i-preserved c = closed_again _ _ _ _ c.loop-i.invariant c.loop-i-test.true _ c.reaches_past.ensures _ c.rule.ensures c.in_ok-rule.was

pub returns : goal.returns
returns c = closed_done _ _ _ _ c.loop-i.invariant c.loop-i-test.false
