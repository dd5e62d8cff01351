use Rattle.tree.specs.Tables.{mode_in}
use Rattle.unpack.proofs.ListReturns.{Unpacked}
use Rattle.unpack.proofs.list.unpack_in.Given as goal

abbrev pub invariant-loop-n : goal.invariant-loop-n
invariant-loop-n l = Unpacked l.b l.trees (mode_in l.tables) l.initial.list l.n l.at l.list
