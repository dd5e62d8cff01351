-- Laws of the lent runs: where keys stand in them, and what stands behind.
use Prim.Native.Nat.{ℕ, ◌+◌, ◌<◌, ◌≤◌}
use mathlib.Core.Path.{◌≡◌, refl, ◌∙◌}
use mathlib.Core.Bool.{Bool, true, false}
use mathlib.Core.List.{List}
use native.Mathlib.Omega.{arith}
use lib.ListN.{length}
use Rattle.format.specs.MakeTables.{key_words}
use Rattle.keys.specs.Keys.{place_in}
use Rattle.keys.specs.Runs.{Behind}

pub in_step : (s : Bool) (k : ℕ) (l : List ℕ) (v : ℕ) → place_in s k + length (key_words l s v) ≡ place_in s (k + 1)
unfolding place_in
in_step true k l v = refl
in_step false k l v = omega arith

pub in_mono : (s : Bool) (k p : ℕ) → k < p → place_in s (k + 1) ≤ place_in s p
unfolding place_in
in_mono true k p h = omega arith
in_mono false k p h = omega arith

pub in_least : (s : Bool) (k : ℕ) → k ≤ place_in s k
unfolding place_in
in_least true k = omega arith
in_least false k = omega arith

pub behind_none : (p : ℕ) (b : List ℕ) → Behind p b b
behind_none p b = record { size = refl; rest = λ i h. refl }

pub behind_then : (p : ℕ) (a b c : List ℕ) → Behind p a b → Behind p b c → Behind p a c
behind_then p a b c x y = record { size = y.size ∙ x.size; rest = λ i h. y.rest i h ∙ x.rest i h }
