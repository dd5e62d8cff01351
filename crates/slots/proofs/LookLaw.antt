-- The search, slot after slot: one law for each way on or out of its loop.
use Prim.Native.Nat.{ℕ, zero, suc, ◌+◌, ◌-◌, ◌<◌, ◌≤◌}
use mathlib.Core.Bool.{Bool, true, false}
use mathlib.Core.Path.{◌≡◌, sym, ◌∙◌}
use mathlib.Core.List.{List}
use native.Mathlib.Omega.{arith}
use borrow.Author.Tests.{lt-ltb, le-ltb}
use lib.ListN.{get_or}
use Rattle.slots.specs.Probe.{next_slot, at_slot, probe}
use Rattle.slots.specs.declared.probe.Looked.{Looked}
use Rattle.slots.specs.declared.probe.Looked.TheVariants.{Found, Empty, Full}

-- ---- the next slot

pub next_on : (size s : ℕ) → s + 1 < size → s + 1 ≡ next_slot size s
next_on size s h = simp (lt-ltb _ _ h)

pub next_round : (size s : ℕ) → size ≤ s + 1 → 0 ≡ next_slot size s
next_round size s h = simp (le-ltb _ _ h)

pub ruleset next_cases = (next_on, next_round)

-- ---- one slot

at_found : (x e s : ℕ) (T : ℕ → Bool) (rest : Looked) → x ≡ e → (e ≡ 0 → ⊥) → T (e - 1) ≡ true → at_slot x s T rest ≡ Found (e - 1)
at_found zero e s T rest q z h = absurd (z (sym q))
at_found (suc x) e s T rest q z h = let i : e - 1 ≡ x = omega arith in rw i (simp (rw i at h))

at_on : (x e s : ℕ) (T : ℕ → Bool) (rest : Looked) → x ≡ e → (e ≡ 0 → ⊥) → T (e - 1) ≡ false → at_slot x s T rest ≡ rest
at_on zero e s T rest q z h = absurd (z (sym q))
at_on (suc x) e s T rest q z h = let i : e - 1 ≡ x = omega arith in simp (rw i at h)

module _ (N : ℕ) (t : List ℕ) (T : ℕ → Bool) where
  step_empty : (s left : ℕ) → 0 < left → get_or t s 0 ≡ 0 → probe N t T s left ≡ Empty s
  unfolding probe
  step_empty s zero h e = absurd (omega arith)
  step_empty s (suc left) h e = rw e

  step_found : (s left e : ℕ) → 0 < left → get_or t s 0 ≡ e → (e ≡ 0 → ⊥) → T (e - 1) ≡ true → probe N t T s left ≡ Found (e - 1)
  unfolding probe
  step_found s zero e h q z g = absurd (omega arith)
  step_found s (suc left) e h q z g = at_found (get_or t s 0) e s T (probe N t T (next_slot N s) left) q z g

  step_on : (s left e : ℕ) → 0 < left → get_or t s 0 ≡ e → (e ≡ 0 → ⊥) → T (e - 1) ≡ false → probe N t T s left ≡ probe N t T (next_slot N s) (left - 1)
  unfolding probe
  step_on s zero e h q z g = absurd (omega arith)
  step_on s (suc left) e h q z g =
      let i : suc left - 1 ≡ left = omega arith in
      rw i (at_on (get_or t s 0) e s T (probe N t T (next_slot N s) left) q z g)

  step_full : (s left : ℕ) → left ≤ 0 → probe N t T s left ≡ Full
  unfolding probe
  step_full s left h = let i : left ≡ 0 = omega arith in rw i

  -- ---- the loop

  module _ (start s left : ℕ) (inv : probe N t T start N ≡ probe N t T s left) where
    pub look_full : left ≤ 0 → Full ≡ probe N t T start N
    look_full h = sym (inv ∙ step_full s left h)

    module _ (h : 0 < left) (e : ℕ) (q : e ≡ get_or t s 0) where
      pub look_empty : e ≡ 0 → Empty s ≡ probe N t T start N
      look_empty z = sym (inv ∙ step_empty s left h (sym q ∙ z))

      module _ (z : e ≡ 0 → ⊥) (b : Bool) (a : b ≡ T (e - 1)) where
        pub look_found : b ≡ true → Found (e - 1) ≡ probe N t T start N
        look_found y = sym (inv ∙ step_found s left e h (sym q) z (sym a ∙ y))

        pub look_on : b ≡ false → (s' : ℕ) → s' ≡ next_slot N s → probe N t T start N ≡ probe N t T s' (left - 1)
        look_on y s' n = inv ∙ step_on s left e h (sym q) z (sym a ∙ y) ∙ rw n

pub ruleset look_cases = (look_full, look_empty)
