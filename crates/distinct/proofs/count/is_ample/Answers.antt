use native.Mathlib.Omega.{arith}
use Rattle.distinct.specs.Count.{ample}
use Rattle.std.proofs.lemmas.Grind.{common_steps}
use Rattle.distinct.proofs.count.is_ample.Goals as goal

pub returns-then-place_in-more : goal.returns-then-place_in-more
unfolding ample
returns-then-place_in-more c = grind (arith, common_steps)

pub returns-else-place_in-more : goal.returns-else-place_in-more
unfolding ample
returns-else-place_in-more c = grind (arith, common_steps)
