use Rattle.std.proofs.lemmas.Result.{err_from_is_err_and}
use Rattle.cursor.proofs.LookReturns.{tells_1, tells_front}
use Rattle.cursor.proofs.look.token_tree.Goals as goal

pub returns-in_err-buffer : goal.returns-in_err-buffer
returns-in_err-buffer c =
    let p = err_from_is_err_and c.from_residual.result c.from_residual.ensures.1 in
    rw (p.1, p.2) (tells_1 _ _ _ _ _ _ _ _ _ c.in_err-buffer.ensures)

pub returns : goal.returns
returns c = tells_front _ _ _ _ _ _ _ _ _ c.in_ok-buffer.ensures _ c.token_tree_in.ensures
