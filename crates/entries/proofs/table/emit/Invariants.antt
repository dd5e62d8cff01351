use Rattle.entries.specs.Runs.{Stored}
use Rattle.entries.proofs.table.emit.Given as goal

abbrev pub invariant-loop-k : goal.invariant-loop-k
invariant-loop-k l = Stored l.keys.list.now l.keys.symbols l.k l.initial.words l.words l.initial.tallies l.tallies
