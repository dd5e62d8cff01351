use Rattle.walk.proofs.LastReturns.{loop_fewer}
use Rattle.walk.proofs.last_span.last_in.Goals as goal

pub loop-found-smaller : goal.loop-found-smaller
loop-found-smaller c = loop_fewer _ _ _ _ _ (rw c.in-Of.is at c.in_ok-found.ensures)
