use Rattle.distinct.proofs.CountReturns.{Unmet}
use Rattle.distinct.proofs.count.is_met.Given as goal

abbrev pub invariant-loop-u : goal.invariant-loop-u
invariant-loop-u l = Unmet l.keys.list.now l.keys.symbols l.v l.u
