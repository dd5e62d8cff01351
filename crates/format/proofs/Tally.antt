-- Laws of tests over lists and of tallies.
use Prim.Native.Nat.{ℕ, zero, suc, ◌+◌, ◌*◌, ◌<◌, ◌≤◌}
use mathlib.Core.Path.{◌≡◌, refl}
use mathlib.Core.Bool.{Bool, true, false, not, ◌||◌}
use mathlib.Core.Logic.{◌⊎◌, inl, inr}
use mathlib.Core.List.{List, [], ◌∷◌}
use native.Mathlib.Omega.{arith}
use native.Mathlib.Decide.{dec_lt}
use lib.ListN.{length, get_or}
use Rattle.std.specs.Prelude.{if◌then◌else◌}
use Rattle.format.specs.Distinct.{any_in, tally}
use Rattle.format.proofs.Each.{true_false}

-- the sum of some counts
unfoldable pub total : List ℕ → ℕ
total [] = 0
total (x ∷ xs) = x + total xs

pub lt_or_le : (a b : ℕ) → (a < b) ⊎ (b ≤ a)
lt_or_le a b = elim (dec_lt a b) [ yes h ↦ inl h | no n ↦ inr (omega arith) ]

pub lt_ne : (a b : ℕ) → a < b → a ≡ b → ⊥
lt_ne a b h e = omega arith

-- ---- some element passes

pub any_none : (f : ℕ → Bool) (l : List ℕ) → ((r : ℕ) → r < length l → f (get_or l r 0) ≡ false) → any_in f l ≡ false
unfolding any_in
any_none f [] h = refl
any_none f (x ∷ xs) h = simp (h 0 (omega arith)) (any_none f xs (λ r k. h (suc r) (omega arith)))

pub any_at : (f : ℕ → Bool) (l : List ℕ) (r : ℕ) → r < length l → f (get_or l r 0) ≡ true → any_in f l ≡ true
unfolding any_in
any_at f [] r k h = absurd (omega arith)
any_at f (x ∷ xs) zero k h = simp h
any_at f (x ∷ xs) (suc r) k h = go (f x) (any_in f xs) (any_at f xs r (omega arith) h)
  where
    go : (a b : Bool) → b ≡ true → (a || b) ≡ true
    go true b e = refl
    go false b e = e

pub any_some : (f : ℕ → Bool) (l : List ℕ) → any_in f l ≡ true → (r : ℕ) × (r < length l) × (f (get_or l r 0) ≡ true)
unfolding any_in
any_some f [] h = true_false false h refl
any_some f (x ∷ xs) h = go (f x) refl h (any_some f xs)
  where
    go : (a : Bool) → f x ≡ a → (a || any_in f xs) ≡ true → (any_in f xs ≡ true → (r : ℕ) × (r < length xs) × (f (get_or xs r 0) ≡ true))
        → (r : ℕ) × (r < suc (length xs)) × (f (get_or (x ∷ xs) r 0) ≡ true)
    go true e h rest = (0, omega arith, e)
    go false e h rest = let q = rest h in (suc q.0, omega (arith, q.1), q.2)

-- ---- how many elements pass

unfoldable pub amount : (ℕ → Bool) → List ℕ → ℕ
amount f [] = 0
amount f (x ∷ xs) = if f x then amount f xs + 1 else amount f xs

pub amount_none : (f : ℕ → Bool) (l : List ℕ) → ((s : ℕ) → s < length l → f (get_or l s 0) ≡ false) → amount f l ≡ 0
unfolding amount
amount_none f [] h = refl
amount_none f (x ∷ xs) h = simp (h 0 (omega arith)) (amount_none f xs (λ s k. h (suc s) (omega arith)))

pub amount_one : (f : ℕ → Bool) (l : List ℕ) (r : ℕ) → r < length l → f (get_or l r 0) ≡ true
    → ((s : ℕ) → s < length l → f (get_or l s 0) ≡ true → s ≡ r) → amount f l ≡ 1
unfolding amount
amount_one f [] r k h only = absurd (omega arith)
amount_one f (x ∷ xs) zero k h only =
    let e : amount f xs ≡ 0 = amount_none f xs (λ s j. go (f (get_or xs s 0)) refl (only (suc s) (omega arith))) in
    simp h (omega arith)
  where
    go : {s : ℕ} (b : Bool) → f (get_or xs s 0) ≡ b → (f (get_or xs s 0) ≡ true → suc s ≡ 0) → f (get_or xs s 0) ≡ false
    go false e n = e
    go true e n = absurd (let z = n e in omega arith)
amount_one f (x ∷ xs) (suc r) k h only =
    let e : amount f xs ≡ 1 = amount_one f xs r (omega arith) h (λ s j a. let z : suc s ≡ suc r = only (suc s) (omega arith) a in omega arith) in
    go (f x) refl (only 0 (omega arith)) e
  where
    go : (b : Bool) → f x ≡ b → (f x ≡ true → 0 ≡ suc r) → amount f xs ≡ 1 → (if f x then amount f xs + 1 else amount f xs) ≡ 1
    go true e n m = absurd (let z = n e in omega arith)
    go false e n m = simp e m

-- an element that passes
pub amount_some : (f : ℕ → Bool) (l : List ℕ) → 0 < amount f l → (r : ℕ) × (r < length l) × (f (get_or l r 0) ≡ true)
unfolding amount
amount_some f [] h = absurd (omega arith)
amount_some f (x ∷ xs) h = go (f x) refl (amount_some f xs)
  where
    go : (b : Bool) → f x ≡ b → (0 < amount f xs → (r : ℕ) × (r < length xs) × (f (get_or xs r 0) ≡ true))
        → (r : ℕ) × (r < suc (length xs)) × (f (get_or (x ∷ xs) r 0) ≡ true)
    go true e rest = (0, omega arith, e)
    go false e rest =
        let h' : 0 < amount f xs = simp e at h in
        let q = rest h' in (suc q.0, omega (arith, q.1), q.2)

pub amount_at : (f : ℕ → Bool) (l : List ℕ) (r : ℕ) → r < length l → f (get_or l r 0) ≡ true → 0 < amount f l
unfolding amount
amount_at f [] r h e = absurd (omega arith)
amount_at f (x ∷ xs) zero h e = simp e (omega arith)
amount_at f (x ∷ xs) (suc r) h e = go (f x) (amount_at f xs r (omega arith) e)
  where
    go : (b : Bool) → 0 < amount f xs → 0 < (if b then amount f xs + 1 else amount f xs)
    go true k = omega arith
    go false k = k

pub amount_all : (l : List ℕ) → amount (λ x. true) l ≡ length l
unfolding amount
amount_all [] = refl
amount_all (x ∷ xs) = let e : amount (λ x. true) xs ≡ length xs = amount_all xs in omega arith

-- ---- how many of the numbers below n pass

pub tally_step : (f : ℕ → Bool) (n : ℕ) → tally f (n + 1) ≡ (if f n then tally f n + 1 else tally f n)
unfolding tally
tally_step f n = let e : n + 1 ≡ suc n = omega arith in rw e

pub tally_none : (f : ℕ → Bool) (n : ℕ) → ((u : ℕ) → u < n → f u ≡ false) → tally f n ≡ 0
unfolding tally
tally_none f zero h = refl
tally_none f (suc n) h = simp (h n (omega arith)) (tally_none f n (λ u k. h u (omega arith)))

pub tally_all : (f : ℕ → Bool) (n : ℕ) → ((u : ℕ) → f u ≡ true) → tally f n ≡ n
unfolding tally
tally_all f zero h = refl
tally_all f (suc n) h = let e : tally f n ≡ n = tally_all f n h in simp (h n) (omega arith)

pub tally_most : (f : ℕ → Bool) (n : ℕ) → tally f n ≤ n
unfolding tally
tally_most f zero = omega arith
tally_most f (suc n) = go (f n) (tally_most f n)
  where
    go : (b : Bool) → tally f n ≤ n → (if b then tally f n + 1 else tally f n) ≤ suc n
    go true h = omega arith
    go false h = omega arith

pub tally_same : (f g : ℕ → Bool) (n : ℕ) → ((u : ℕ) → u < n → f u ≡ g u) → tally f n ≡ tally g n
unfolding tally
tally_same f g zero h = refl
tally_same f g (suc n) h = rw (h n (omega arith), tally_same f g n (λ u k. h u (omega arith)))

-- either of two tests that are never both passed
pub tally_or : (f g : ℕ → Bool) (n : ℕ) → ((u : ℕ) → f u ≡ true → g u ≡ false) → tally (λ u. f u || g u) n ≡ tally f n + tally g n
unfolding tally
tally_or f g zero h = refl
tally_or f g (suc n) h = go (f n) (g n) refl (h n) (tally_or f g n h)
  where
    go : (a b : Bool) → g n ≡ b → (a ≡ true → g n ≡ false) → tally (λ u. f u || g u) n ≡ tally f n + tally g n
        → (if a || b then tally (λ u. f u || g u) n + 1 else tally (λ u. f u || g u) n)
        ≡ (if a then tally f n + 1 else tally f n) + (if b then tally g n + 1 else tally g n)
    go true true e d i = true_false (g n) e (d refl)
    go true false e d i = omega arith
    go false true e d i = omega arith
    go false false e d i = omega arith

-- a test is passed or not
pub tally_not : (f : ℕ → Bool) (n : ℕ) → tally (λ u. not (f u)) n + tally f n ≡ n
unfolding tally
tally_not f zero = refl
tally_not f (suc n) = go (f n) (tally_not f n)
  where
    go : (a : Bool) → tally (λ u. not (f u)) n + tally f n ≡ n
        → (if not a then tally (λ u. not (f u)) n + 1 else tally (λ u. not (f u)) n) + (if a then tally f n + 1 else tally f n) ≡ suc n
    go true i = omega arith
    go false i = omega arith

-- two numbers for each
pub tally_pairs : (f : ℕ → Bool) (n : ℕ) → tally f (2 * n) ≡ tally (λ u. f (2 * u)) n + tally (λ u. f (2 * u + 1)) n
unfolding tally
tally_pairs f zero = refl
tally_pairs f (suc n) =
    let e : 2 * suc n ≡ suc (suc (2 * n)) = omega arith in
    let g : 2 * n + 1 ≡ suc (2 * n) = omega arith in
    rw (e, g) (go (f (2 * n)) (f (suc (2 * n))) (tally_pairs f n))
  where
    go : (a b : Bool) → tally f (2 * n) ≡ tally (λ u. f (2 * u)) n + tally (λ u. f (2 * u + 1)) n
        → (if b then (if a then tally f (2 * n) + 1 else tally f (2 * n)) + 1 else (if a then tally f (2 * n) + 1 else tally f (2 * n)))
        ≡ (if a then tally (λ u. f (2 * u)) n + 1 else tally (λ u. f (2 * u)) n)
        + (if b then tally (λ u. f (2 * u + 1)) n + 1 else tally (λ u. f (2 * u + 1)) n)
    go true true i = omega arith
    go true false i = omega arith
    go false true i = omega arith
    go false false i = omega arith
