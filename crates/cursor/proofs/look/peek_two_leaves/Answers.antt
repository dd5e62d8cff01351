use Rattle.std.proofs.lemmas.Result.{err_from_is_err_and}
use Rattle.cursor.proofs.LookReturns.{peeks_1, peeks_front}
use Rattle.cursor.proofs.look.peek_two_leaves.Goals as goal

pub returns-in_err-buffer : goal.returns-in_err-buffer
returns-in_err-buffer c =
    let p = err_from_is_err_and c.from_residual.result c.from_residual.ensures.1 in
    rw (p.1, p.2) (peeks_1 _ _ _ _ _ _ _ _ _ c.in_err-buffer.ensures)

pub returns : goal.returns
returns c = peeks_front _ _ _ _ _ _ _ _ _ c.in_ok-buffer.ensures _ c.peek_two_leaves_in.ensures
