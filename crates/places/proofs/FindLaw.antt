-- The first of some numbers that passes a test: by two runs of them, and by another test that says the same.
use Prim.Native.Nat.{ℕ, zero, suc, ◌+◌, ◌-◌, ◌≤◌, ◌<◌}
use mathlib.Core.Bool.{Bool, true, false}
use mathlib.Core.Path.{◌≡◌, refl, sym, ◌∙◌, ap}
use mathlib.Core.Logic.{⊎_elim}
use native.Mathlib.Omega.{arith}
use borrow.Author.Tests.{lt-ltb, le-ltb}
use Rattle.std.specs.Prelude.{if◌then◌else◌}
use Rattle.format.specs.Writer.{find}
use Rattle.format.proofs.First.{find_to}
use Rattle.places.specs.Places.{so_far}
use Rattle.format.proofs.Tally.{lt_or_le}

module _ (t : ℕ → Bool) where
  -- found in the first run
  pub find_kept : (a b i : ℕ) → find t a i < i + a → find t (a + b) i ≡ find t a i
  unfolding find
  find_kept zero b i h = absurd (omega arith)
  find_kept (suc a) b i h =
      let q : suc a + b ≡ suc (a + b) = omega arith in
      rw q (go (t i) refl h (find_kept a b (i + 1)))
    where
      go : (x : Bool) → t i ≡ x → (if t i then i else find t a (i + 1)) < i + suc a
          → (find t a (i + 1) < i + 1 + a → find t (a + b) (i + 1) ≡ find t a (i + 1))
          → (if t i then i else find t (a + b) (i + 1)) ≡ (if t i then i else find t a (i + 1))
      go true e h rec = simp e
      go false e h rec =
          let h' : find t a (i + 1) < i + suc a = simp e at h in
          simp e (rec (omega arith))

  -- not found in it
  pub find_on : (a b i : ℕ) → i + a ≤ find t a i → find t (a + b) i ≡ find t b (i + a)
  unfolding find
  find_on zero b i h =
      let z : 0 + b ≡ b = omega arith in
      let e : i + 0 ≡ i = omega arith in
      rw (z, e)
  find_on (suc a) b i h =
      let q : suc a + b ≡ suc (a + b) = omega arith in
      rw q (go (t i) refl h (find_on a b (i + 1)))
    where
      go : (x : Bool) → t i ≡ x → i + suc a ≤ (if t i then i else find t a (i + 1))
          → (i + 1 + a ≤ find t a (i + 1) → find t (a + b) (i + 1) ≡ find t b (i + 1 + a))
          → (if t i then i else find t (a + b) (i + 1)) ≡ find t b (i + suc a)
      go true e h rec =
          let h' : i + suc a ≤ i = simp e at h in
          absurd (omega arith)
      go false e h rec =
          let h' : i + suc a ≤ find t a (i + 1) = simp e at h in
          let q : i + 1 + a ≡ i + suc a = omega arith in
          simp e (rec (omega arith) ∙ ap (λ (k : ℕ). find t b k) q)

  -- the first f, then those to g
  pub find_before : (f g : ℕ) → f ≤ g → find t f 0 < f → find t g 0 ≡ find t f 0
  find_before f g h k =
      let e : g ≡ f + (g - f) = omega arith in
      ap (λ (x : ℕ). find t x 0) e ∙ find_kept f (g - f) 0 (omega arith)

  pub find_behind : (f g : ℕ) → f ≤ g → f ≤ find t f 0 → find t g 0 ≡ find t (g - f) f
  find_behind f g h k =
      let e : g ≡ f + (g - f) = omega arith in
      let z : 0 + f ≡ f = omega arith in
      ap (λ (x : ℕ). find t x 0) e ∙ find_on f (g - f) 0 (omega arith) ∙ ap (λ (x : ℕ). find t (g - f) x) z

  pub find_here : (a i : ℕ) → 0 < a → t i ≡ true → find t a i ≡ i
  unfolding find
  find_here zero i h e = absurd (omega arith)
  find_here (suc a) i h e = simp e

  pub find_next : (a i : ℕ) → 0 < a → t i ≡ false → find t a i ≡ find t (a - 1) (i + 1)
  unfolding find
  find_next zero i h e = absurd (omega arith)
  find_next (suc a) i h e = let q : suc a - 1 ≡ a = omega arith in rw q (simp e)

  pub find_end : (i : ℕ) → find t 0 i ≡ i
  unfolding find
  find_end i = refl

pub find_same : (t u : ℕ → Bool) → ((i : ℕ) → t i ≡ u i) → (j i : ℕ) → find t j i ≡ find u j i
unfolding find
find_same t u e zero i = refl
find_same t u e (suc j) i = rw (e i, find_same t u e j (i + 1))

-- ---- the first place so far

module _ (t : ℕ → Bool) (n : ℕ) where
  pub so_far_none : so_far t n 0 ≡ n
  unfolding so_far find
  so_far_none = refl

  so_far_in : (e : ℕ) → find t e 0 < e → so_far t n e ≡ find t e 0
  unfolding so_far
  so_far_in e h = simp (lt-ltb _ _ h)

  so_far_out : (e : ℕ) → e ≤ find t e 0 → so_far t n e ≡ n
  unfolding so_far
  so_far_out e h = simp (le-ltb _ _ h)

  pub so_far_all : so_far t n n ≡ find t n 0
  so_far_all = ⊎_elim (λ h. so_far_in n h) (λ h. let k = find_to t n 0 in so_far_out n h ∙ (let z : n ≡ find t n 0 = omega arith in z)) (lt_or_le (find t n 0) n)

  module _ (e : ℕ) where
    le_one : e ≤ e + 1
    le_one = omega arith

    one : e + 1 - e ≡ 1
    one = omega arith

    -- found before
    so_far_kept : find t e 0 < e → so_far t n (e + 1) ≡ so_far t n e
    so_far_kept h =
        let q = find_before t e (e + 1) le_one h in
        so_far_in (e + 1) (omega arith) ∙ q ∙ sym (so_far_in e h)

    -- entry e does not pass
    pub so_far_not : t e ≡ false → so_far t n (e + 1) ≡ so_far t n e
    so_far_not f = ⊎_elim so_far_kept
        (λ h.
        let p : find t 1 e ≡ e + 1 = find_next t 1 e (omega arith) f ∙ find_end t (e + 1) in
        let q : find t (e + 1) 0 ≡ e + 1 = find_behind t e (e + 1) le_one h ∙ ap (λ (j : ℕ). find t j e) one ∙ p in
        so_far_out (e + 1) (omega arith) ∙ sym (so_far_out e h))
        (lt_or_le (find t e 0) e)

    -- it is the first that passes
    pub so_far_first : t e ≡ true → e < n → so_far t n e ≡ n → so_far t n (e + 1) ≡ e
    so_far_first f l s = ⊎_elim
        (λ h. let q = so_far_in e h in absurd (omega arith))
        (λ h.
        let p : find t 1 e ≡ e = find_here t 1 e (omega arith) f in
        let q : find t (e + 1) 0 ≡ e = find_behind t e (e + 1) le_one h ∙ ap (λ (j : ℕ). find t j e) one ∙ p in
        so_far_in (e + 1) (omega arith) ∙ q)
        (lt_or_le (find t e 0) e)

    -- it is not
    pub so_far_again : (so_far t n e ≡ n → ⊥) → so_far t n (e + 1) ≡ so_far t n e
    so_far_again s = ⊎_elim so_far_kept (λ h. absurd (s (so_far_out e h))) (lt_or_le (find t e 0) e)
