use Rattle.distinct.specs.Pairs.{Scanned}
use Rattle.distinct.proofs.scan.scan.Given as goal

abbrev pub invariant-loop-v : goal.invariant-loop-v
invariant-loop-v l = Scanned l.keys.list.now l.keys.symbols l.v l.p l.initial.words l.words l.initial.tallies l.tallies
