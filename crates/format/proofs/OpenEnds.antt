-- A stack of ends in an array: how many, and what a store past them, one more and one less make of them.
use Prim.Native.Nat.{ℕ, zero, suc, ◌+◌, ◌-◌, ◌≤◌, ◌<◌}
use mathlib.Core.Path.{◌≡◌, refl, ap}
use mathlib.Core.List.{List, [], ◌∷◌}
use native.Mathlib.Omega.{arith}
use native.Mathlib.Numerals.{add-one}
use lib.ListN.{length, get_or, set}
use lib.Seq.{get_or-set_same, get_or-set_other}

-- a stack of ends in an array ("`Vec` stacks: arrays of 256"): its first so many, the innermost first
unfoldable pub open_ends : List ℕ → ℕ → List ℕ
open_ends ends zero = []
open_ends ends (suc d) = get_or ends d 0 ∷ open_ends ends d

module _ (ends : List ℕ) where
  pub open_length : (d : ℕ) → length (open_ends ends d) ≡ d
  unfolding open_ends
  open_length zero = refl
  open_length (suc d) = ap suc (open_length d)

  -- a store past them
  pub open_set : (d i e : ℕ) → d ≤ i → open_ends (set ends i e) d ≡ open_ends ends d
  unfolding open_ends
  open_set zero i e h = refl
  open_set (suc d) i e h =
      let a = get_or-set_other ends i d e 0 (λ q. absurd (omega arith)) in
      rw (a, open_set d i e (omega arith))

  -- one more is opened
  pub open_more : (d e : ℕ) → d < length ends → open_ends (set ends d e) (d + 1) ≡ e ∷ open_ends ends d
  unfolding open_ends
  open_more d e h = rw (add-one d) (rw (get_or-set_same ends d e 0 h, open_set d d e (omega arith)))

  -- the innermost of them
  pub open_suc : (d : ℕ) → 0 < d → open_ends ends d ≡ get_or ends (d - 1) 0 ∷ open_ends ends (d - 1)
  unfolding open_ends
  open_suc zero h = absurd (omega arith)
  open_suc (suc d) h = let e : suc d - 1 ≡ d = omega arith in rw e
