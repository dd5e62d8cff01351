use Rattle.lister.proofs.DepthReturns.{Closing}
use Rattle.lister.proofs.depth.still_open.Given as goal

abbrev pub invariant-loop-i : goal.invariant-loop-i
invariant-loop-i l = Closing l.ends l.depth l.n l.i
