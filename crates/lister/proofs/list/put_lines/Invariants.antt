use Rattle.lister.proofs.Listed.{Listed}
use Rattle.lister.proofs.list.put_lines.Given as goal

abbrev pub invariant-loop-n : goal.invariant-loop-n
invariant-loop-n l = Listed l.b l.trees l.parts l.symbols l.initial.out l.at l.n l.first l.depth l.ends l.next l.out
