use Rattle.std.proofs.lemmas.Result.{err_from_is_err_and}
use Rattle.cursor.proofs.LookReturns.{second_refused, second_subtree, second_found}
use Rattle.cursor.proofs.look.second.Goals as goal

pub returns-in_err-here : goal.returns-in_err-here
returns-in_err-here c =
    let p = err_from_is_err_and c.from_residual.result c.from_residual.ensures.1 in
    rw (p.1, p.2) (second_refused _ _ _ _ _ _ c.in_err-here.ensures)

pub returns-in_default : goal.returns-in_default
returns-in_default c = second_subtree _ _ _ _ _ _ c.in_ok-here.ensures _ c.in_default.is

pub returns : goal.returns
returns c = second_found _ _ _ _ _ _ c.in_ok-here.ensures _ _ c.loose_at.ensures c.in-Leaf.is
