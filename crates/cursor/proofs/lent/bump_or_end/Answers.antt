use Rattle.cursor.proofs.MovesReturns.{moves_1, moves_front}
use Rattle.cursor.proofs.lent.bump_or_end.Goals as goal

pub returns-in-Ok : goal.returns-in-Ok
returns-in-Ok c = moves_front _ _ _ _ _ _ _ _ _ _ _ _ _ _ _ c.in-Ok.ensures c.bump_or_end_in.ensures

pub returns-in-Err : goal.returns-in-Err
returns-in-Err c = moves_1 _ _ _ _ _ _ _ _ _ _ c.in-Err.ensures
