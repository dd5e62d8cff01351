use Rattle.cursor.proofs.PlanReturns.{last_refused}
use Rattle.cursor.proofs.plan.shut_last.Goals as goal

pub returns-in-Err : goal.returns-in-Err
returns-in-Err c = last_refused _ _ _ _ _ _ c.requires.0 _ _ c.in-Err.ensures c.refuse.ensures
