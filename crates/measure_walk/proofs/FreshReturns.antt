-- The sum of a fresh walk.
use Prim.Native.Nat.{ℕ}
use mathlib.Core.Path.{◌≡◌, ◌∙◌}
use mathlib.Core.List.{List}
use Rattle.format.specs.Reader.{Reader}
use Rattle.format.specs.Walk.{Walk, WalkCall}
use Rattle.walk.specs.Walk.{walk_of}
use Rattle.walk.specs.declared.walk.Walk as walks
use Rattle.measure.specs.Sum.{walk_sum}

pub fresh_sum : (R : Reader (List ℕ)) (c : WalkCall) (k r : ℕ) (w : walks.Walk) (v : Walk) → walk_of w ≡ v → r ≡ walk_sum R c k (walk_of w) 0 → r ≡ walk_sum R c k v 0
fresh_sum R c k r w v e f = f ∙ rw e

pub ruleset fresh_cases = (fresh_sum)
