-- A tally over places is an amount of elements.
use Prim.Native.Nat.{ℕ, zero, suc, ◌+◌, ◌<◌, ◌≤◌}
use mathlib.Core.Path.{◌≡◌, refl, ap, ◌∙◌}
use mathlib.Core.Bool.{Bool, true, false}
use mathlib.Core.List.{List, [], ◌∷◌, ◌++◌}
use native.Mathlib.Omega.{arith}
use lib.ListN.{length, get_or, take}
use lib.Seq.{take-suc}
use Rattle.std.specs.Prelude.{if◌then◌else◌}
use Rattle.format.specs.Distinct.{tally}
use Rattle.format.proofs.Tally.{amount}

take_one : (w : List ℕ) (n : ℕ) → n < length w → take (suc n) w ≡ take n w ++ get_or w n 0 ∷ []
take_one w n h = take-suc w n 0 h

pub amount_last : (f : ℕ → Bool) (l : List ℕ) (x : ℕ) → amount f (l ++ x ∷ []) ≡ (if f x then amount f l + 1 else amount f l)
unfolding amount
amount_last f [] x = refl
amount_last f (y ∷ ys) x = go (f y) (f x) (amount_last f ys x)
  where
    go : (a b : Bool) → amount f (ys ++ x ∷ []) ≡ (if b then amount f ys + 1 else amount f ys)
        → (if a then amount f (ys ++ x ∷ []) + 1 else amount f (ys ++ x ∷ []))
        ≡ (if b then (if a then amount f ys + 1 else amount f ys) + 1 else (if a then amount f ys + 1 else amount f ys))
    go true true e = omega arith
    go true false e = omega arith
    go false true e = e
    go false false e = e

pub tally_take : (f : ℕ → Bool) (w : List ℕ) (n : ℕ) → n ≤ length w → amount f (take n w) ≡ tally (λ i. f (get_or w i 0)) n
unfolding amount tally
tally_take f w zero h = refl
tally_take f w (suc n) h = ap (amount f) (take_one w n (omega arith)) ∙ amount_last f (take n w) (get_or w n 0) ∙ rw (tally_take f w n (omega arith))
