use Rattle.distinct.specs.Pairs.{Missed}
use Rattle.distinct.proofs.scan.find.Given as goal

abbrev pub invariant-loop-e : goal.invariant-loop-e
invariant-loop-e l = Missed l.keys.list.now l.keys.symbols l.v l.words l.e
