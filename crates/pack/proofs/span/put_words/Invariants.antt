use mathlib.Core.Path.{◌≡◌}
use lib.ListN.{take}
use Rattle.format.specs.Word.{put}
use Rattle.pack.specs.Packing.{words_bytes}
use Rattle.pack.proofs.span.put_words.Given as goal

abbrev pub invariant-loop-i : goal.invariant-loop-i
invariant-loop-i g l = l.out ≡ put l.initial.out l.at (words_bytes (take l.i l.words))
