-- Laws of numbers and lists.
use Prim.Native.Nat.{ℕ, zero, suc, ◌+◌, ◌≤◌, ◌<◌}
use mathlib.Core.Path.{◌≡◌, refl, ap, sym, ◌∙◌}
use mathlib.Core.Bool.{Bool, true, false}
use mathlib.Core.List.{List, [], ◌∷◌, ◌++◌}
use native.Mathlib.Omega.{arith}
use lib.ListN.{length, get_or, set, replicate, length-replicate, get_or-eq_default}
use lib.Seq.{set_out, sets}
use Rattle.std.specs.Prelude.{if◌then◌else◌}
pub use Rattle.format.proofs.Kept.{kept}

pub differ : {A : Type 0} → true ≡ false → A
differ e = let z : ◌≡◌ {A = ℕ} 0 1 = ap (λ (b : Bool). if b then 0 else 1) e in absurd (omega arith)

-- what holds of every element, and of 0, holds of every element after a store
pub set_all : (P : ℕ → Type 0) (l : List ℕ) (h v : ℕ) → ((k : ℕ) → P (get_or l k 0)) → P v → (k : ℕ) → P (get_or (set l h v) k 0)
set_all P [] h v ok pv k = ok k
set_all P (x ∷ xs) zero v ok pv zero = pv
set_all P (x ∷ xs) zero v ok pv (suc k) = ok (suc k)
set_all P (x ∷ xs) (suc h) v ok pv zero = ok zero
set_all P (x ∷ xs) (suc h) v ok pv (suc k) = set_all P xs h v (λ j. ok (suc j)) pv k

-- a store where there is no such place
pub store_out : (l : List ℕ) (i v : ℕ) → length l ≤ i → l ≡ set l i v
store_out l i v h = sym (set_out l i v h)

-- there is no such element
pub none_at : (l : List ℕ) (i : ℕ) → length l ≤ i → 0 ≡ get_or l i 0
none_at l i h = sym (get_or-eq_default l 0 h)

-- two runs of stores, one behind the other
pub sets_append : (xs ys l : List ℕ) (i : ℕ) → sets (sets l i xs) (i + length xs) ys ≡ sets l i (xs ++ ys)
sets_append [] ys l i = let e : i + 0 ≡ i = omega arith in ap (λ (k : ℕ). sets l k ys) e
sets_append (x ∷ xs) ys l i =
    let e : i + suc (length xs) ≡ suc i + length xs = omega arith in
    ap (λ (k : ℕ). sets (sets (set l i x) (suc i) xs) k ys) e ∙ sets_append xs ys (set l i x) (suc i)

-- ---- arrays of zeros

pub zeros_at : (m k : ℕ) → ◌≡◌ {A = ℕ} (get_or (replicate m 0) k 0) 0
zeros_at zero k = refl
zeros_at (suc m) zero = refl
zeros_at (suc m) (suc k) = zeros_at m k

pub zeros_pos : (t : ℕ) → 0 < t → 0 < length (replicate {A = ℕ} t 0)
zeros_pos t h = rw (length-replicate {A = ℕ} t 0) h

pub zeros_most : (t m : ℕ) → t ≤ m → length (replicate {A = ℕ} t 0) ≤ m
zeros_most t m h = rw (length-replicate {A = ℕ} t 0) h

-- ---- lengths that are kept

pub le_kept : (p a b : ℕ) → p ≤ a → b ≡ a → p ≤ b
le_kept p a b h e = omega arith
