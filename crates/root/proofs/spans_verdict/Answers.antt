use mathlib.Core.Path.{ap, ◌∙◌}
use Rattle.std.specs.Prelude.{Err}
use Rattle.std.proofs.lemmas.Result.{err_from_is_err_and}
use Rattle.root.proofs.RewriteReturns.{spans_two, spans_pass, spans_unread}
use Rattle.root.proofs.spans_verdict.Goals as goal

pub returns-in_err-check_buffer : goal.returns-in_err-check_buffer
returns-in_err-check_buffer c =
    let p = err_from_is_err_and c.from_residual.result c.from_residual.ensures.1 in
    spans_unread _ _ _ _ _ c.check_buffer.ensures _ c.in_err-check_buffer.was _ _ _ (p.1 ∙ ap Err p.2)

pub returns-then-not-both_fit : goal.returns-then-not-both_fit
returns-then-not-both_fit c = spans_two _ _ _ _ _ c.check_buffer.ensures _ c.in_ok-check_buffer.was _ _ _ c.both_fit.ensures _ c.if-not-both_fit.true c.refused.ensures

pub returns : goal.returns
returns c = spans_pass _ _ _ _ _ c.check_buffer.ensures _ c.in_ok-check_buffer.was _ _ _ c.both_fit.ensures c.if-not-both_fit.false
