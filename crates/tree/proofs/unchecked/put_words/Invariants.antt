use mathlib.Core.Path.{◌≡◌}
use lib.ListN.{length, take}
use Rattle.format.specs.Word.{put}
use Rattle.tree.proofs.unchecked.put_words.Given as goal

abbrev pub invariant-loop-i : goal.invariant-loop-i
invariant-loop-i l = (length l.list ≡ length l.initial.list) × (l.list ≡ put l.initial.list l.at (take l.i l.words))
