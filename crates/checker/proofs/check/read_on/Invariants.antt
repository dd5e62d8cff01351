use Rattle.format.specs.Buffer.{raw_shape}
use Rattle.checker.specs.Descent.{ReadTo}
use Rattle.checker.specs.Glance.{reader_of}
use Rattle.checker.proofs.check.read_on.Given as goal

abbrev pub invariant-loop-tree : goal.invariant-loop-tree
invariant-loop-tree l = ReadTo raw_shape (reader_of l.b l.sizes) l.n l.tree l.place
