use Rattle.walk.proofs.WalkReturns.{front_1, front_step}
use Rattle.walk.proofs.walk.walk_by.Goals as goal

pub returns-in-Err : goal.returns-in-Err
returns-in-Err c = front_1 _ _ _ _ _ _ _ _ c.in-Err.ensures c.refuse.ensures

pub returns-in-Ok : goal.returns-in-Ok
returns-in-Ok c = front_step _ _ _ _ _ _ _ _ c.in-Ok.ensures c.walk_in.ensures
