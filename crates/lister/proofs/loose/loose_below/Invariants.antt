use Rattle.lister.proofs.Counted.{Counted}
use Rattle.lister.proofs.loose.loose_below.Given as goal

abbrev pub invariant-loop-n : goal.invariant-loop-n
invariant-loop-n l = Counted l.b l.trees l.parts l.symbols l.n l.at l.count
