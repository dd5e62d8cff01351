use Rattle.entries.specs.Settle.{Expanding}
use Rattle.entries.proofs.settle.expand.Given as goal

abbrev pub invariant-loop-k : goal.invariant-loop-k
invariant-loop-k l = Expanding l.keys.list.now l.keys.symbols l.p l.k l.initial.words l.words
