use Rattle.std.proofs.lemmas.Result.{err_from_is_err_and}
use Rattle.walk.proofs.LastReturns.{whole_1, whole_last}
use Rattle.walk.proofs.last_span.last_span.Goals as goal

pub returns-in_err-buffer : goal.returns-in_err-buffer
returns-in_err-buffer c =
    let p = err_from_is_err_and c.from_residual.result c.from_residual.ensures.1 in
    rw (p.1, p.2) (whole_1 _ _ _ _ _ _ c.in_err-buffer.ensures)

pub returns : goal.returns
returns c = whole_last _ _ _ _ _ _ c.in_ok-buffer.ensures _ c.last_in.ensures
