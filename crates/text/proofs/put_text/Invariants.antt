use lib.ListN.{take}
use Rattle.text.specs.Typed.{Typed}
use Rattle.text.proofs.put_text.Given as goal

abbrev pub invariant-loop-byte : goal.invariant-loop-byte
invariant-loop-byte l = Typed l.initial.out l.at (take l.byte-index l.text) l.next l.out
