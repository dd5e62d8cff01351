-- The open trees of an array: how many, and what opening, closing and restoring make of them.
use Prim.Native.Nat.{ℕ, zero, suc, ◌-◌, ◌<◌, ◌+◌}
use mathlib.Core.Path.{◌≡◌, refl, ap}
use mathlib.Core.List.{List, ◌∷◌}
use native.Mathlib.Omega.{arith}
use lib.ListN.{length, get_or}
use Rattle.builder.specs.State.{numbers}

pub numbers_length : (a : List ℕ) (d : ℕ) → length (numbers a d) ≡ d
unfolding numbers
numbers_length a zero = refl
numbers_length a (suc d) = ap suc (numbers_length a d)

-- the last opened, and those before it
pub numbers_down : (a : List ℕ) (d : ℕ) → 0 < d → numbers a d ≡ get_or a (d - 1) 0 ∷ numbers a (d - 1)
unfolding numbers
numbers_down a zero h = absurd (omega arith)
numbers_down a (suc d) h = let e : suc d - 1 ≡ d = omega arith in rw e

pub numbers_last : (a : List ℕ) (i : ℕ) → numbers a (i + 1) ≡ get_or a i 0 ∷ numbers a i
unfolding numbers
numbers_last a i = let e : i + 1 ≡ suc i = omega arith in rw e
