use native.Mathlib.Omega.{arith}
use Rattle.distinct.specs.Count.{fresh}
use Rattle.std.proofs.lemmas.Grind.{common_steps}
use Rattle.distinct.proofs.count.is_fresh.Goals as goal

pub returns-then-is_live : goal.returns-then-is_live
unfolding fresh
returns-then-is_live c = grind (arith, common_steps)

pub returns-else-is_live : goal.returns-else-is_live
unfolding fresh
returns-else-is_live c = grind (arith, common_steps)
