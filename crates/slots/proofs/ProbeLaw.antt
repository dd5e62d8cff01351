-- Laws of probing.
use Prim.Native.Nat.{ℕ, zero, suc, ◌+◌, ◌-◌, ◌<◌, ◌≤◌}
use mathlib.Core.Bool.{Bool, true, false}
use mathlib.Core.Logic.{⊎_elim}
use mathlib.Core.Path.{◌≡◌, refl, ap, sym, ◌∙◌, subst}
use mathlib.Core.List.{List, [], ◌∷◌}
use native.Mathlib.Omega.{arith}
use lib.ListN.{length, get_or, set}
use lib.Seq.{get_or-set_same, get_or-set_other}
use lib.Dec.{ltb, eqb}
use borrow.Author.Tests.{eqb-true, eq-eqb, ltb-true, ltb-false}
use Rattle.std.specs.Prelude.{if◌then◌else◌}
use Rattle.slots.specs.Probe.{probe, at_slot, next_slot, occupied}
use Rattle.slots.specs.declared.probe.Looked.{Looked}
use Rattle.slots.specs.declared.probe.Looked.TheVariants.{Found, Empty, Full}
use Rattle.slots.proofs.Cases.{eq_or_ne}

abbrev number : Looked → ℕ
number (Found e) = 0
number (Empty e) = 1
number Full = 2

pub found_empty : {A : Type 0} (r k : ℕ) → Found r ≡ Empty k → A
found_empty r k h = let z : ◌≡◌ {A = ℕ} 0 1 = ap number h in absurd (omega arith)

pub found_full : {A : Type 0} (r : ℕ) → Found r ≡ Full → A
found_full r h = let z : ◌≡◌ {A = ℕ} 0 2 = ap number h in absurd (omega arith)

pub empty_full : {A : Type 0} (r : ℕ) → Empty r ≡ Full → A
empty_full r h = let z : ◌≡◌ {A = ℕ} 1 2 = ap number h in absurd (omega arith)

abbrev inside : Looked → ℕ
inside (Found e) = e
inside (Empty e) = e
inside Full = 0

-- the search found nothing
abbrev pub Nothing : Looked → Type 0
Nothing q = (e : ℕ) → q ≡ Found e → ⊥

-- ---- what a search that found nothing passed

module _ (size : ℕ) (t : List ℕ) (test : ℕ → Bool) where
  -- an entry that can be reached is met before the search ends, so it did not pass
  miss_at : (x s r : ℕ) (rest other : Looked) → at_slot x s (λ e. eqb e r) other ≡ Found r → Nothing (at_slot x s test rest)
      → (other ≡ Found r → Nothing rest → test r ≡ false) → test r ≡ false
  miss_at zero s r rest other a b ih = found_empty r s (sym a)
  miss_at (suc e) s r rest other a b ih = go (test e) (eqb e r) refl refl a b
    where
      go : (x y : Bool) → test e ≡ x → eqb e r ≡ y → (if y then Found e else other) ≡ Found r → Nothing (if x then Found e else rest) → test r ≡ false
      go true y p q a b = absurd (b e refl)
      go false true p q a b = subst (λ (j : ℕ). test j ≡ false) (eqb-true e r q) p
      go false false p q a b = ih a b

  pub probe_miss : (s left r : ℕ) → probe size t (λ e. eqb e r) s left ≡ Found r → Nothing (probe size t test s left) → test r ≡ false
  unfolding probe
  probe_miss s zero r h g = found_full r (sym h)
  probe_miss s (suc left) r h g =
      miss_at (get_or t s 0) s r (probe size t test (next_slot size s) left) (probe size t (λ e. eqb e r) (next_slot size s) left) h g
      (probe_miss (next_slot size s) left r)

  -- ---- an entry that is found passes, and stands in a slot

  module _ (P : ℕ → Type 0) (ok : (s : ℕ) → 0 < get_or t s 0 → P (get_or t s 0 - 1)) where
    found_at : (x s r : ℕ) (rest : Looked) → get_or t s 0 ≡ x → at_slot x s test rest ≡ Found r → (rest ≡ Found r → (test r ≡ true) × P r) → (test r ≡ true) × P r
    found_at zero s r rest h a ih = found_empty r s (sym a)
    found_at (suc e) s r rest h a ih = go (test e) refl a
      where
        go : (x : Bool) → test e ≡ x → (if x then Found e else rest) ≡ Found r → (test r ≡ true) × P r
        go true q a =
            let k : e ≡ r = ap inside a in
            let z : get_or t s 0 - 1 ≡ r = omega arith in
            (subst (λ (j : ℕ). test j ≡ true) k q, subst P z (ok s (omega arith)))
        go false q a = ih a

    pub probe_found : (s left r : ℕ) → probe size t test s left ≡ Found r → (test r ≡ true) × P r
    unfolding probe
    probe_found s zero r g = found_full r (sym g)
    probe_found s (suc left) r g = found_at (get_or t s 0) s r (probe size t test (next_slot size s) left) refl g (probe_found (next_slot size s) left r)

  -- ---- an empty slot is empty

  pub next_lt : (s : ℕ) → s < size → next_slot size s < size
  next_lt s h = go (ltb (s + 1) size) refl
    where
      go : (b : Bool) → ltb (s + 1) size ≡ b → (if b then s + 1 else 0) < size
      go true e = ltb-true (s + 1) size e
      go false e = omega arith

  empty_at : (x s k : ℕ) (rest : Looked) → get_or t s 0 ≡ x → s < size → at_slot x s test rest ≡ Empty k
      → (rest ≡ Empty k → (get_or t k 0 ≡ 0) × (k < size)) → (get_or t k 0 ≡ 0) × (k < size)
  empty_at zero s k rest e h a ih = let q : s ≡ k = ap inside a in (subst (λ (j : ℕ). get_or t j 0 ≡ 0) q e, omega arith)
  empty_at (suc x) s k rest e h a ih = go (test x) a
    where
      go : (b : Bool) → (if b then Found x else rest) ≡ Empty k → (get_or t k 0 ≡ 0) × (k < size)
      go true a = found_empty x k a
      go false a = ih a

  pub probe_empty : (s left k : ℕ) → s < size → probe size t test s left ≡ Empty k → (get_or t k 0 ≡ 0) × (k < size)
  unfolding probe
  probe_empty s zero k h g = empty_full k (sym g)
  probe_empty s (suc left) k h g =
      empty_at (get_or t s 0) s k (probe size t test (next_slot size s) left) refl h g (probe_empty (next_slot size s) left k (next_lt s h))

-- ---- a store into an empty slot

module _ (size : ℕ) (t : List ℕ) (k v : ℕ) (z : get_or t k 0 ≡ 0) where
  -- what stands in the other slots is not touched
  kept_at : (s x : ℕ) → get_or t s 0 ≡ suc x → get_or (set t k v) s 0 ≡ suc x
  kept_at s x e = get_or-set_other t k s v 0 (λ q. let w : get_or t k 0 ≡ suc x = subst (λ (j : ℕ). get_or t j 0 ≡ suc x) q e in absurd (omega arith)) ∙ e

  keep_at : (x s r : ℕ) (rest after : Looked) → get_or t s 0 ≡ x → at_slot x s (λ e. eqb e r) rest ≡ Found r
      → (rest ≡ Found r → after ≡ Found r) → at_slot (get_or (set t k v) s 0) s (λ e. eqb e r) after ≡ Found r
  keep_at zero s r rest after e a ih = found_empty r s (sym a)
  keep_at (suc x) s r rest after e a ih = rw (kept_at s x e) (go (eqb x r) a)
    where
      go : (b : Bool) → (if b then Found x else rest) ≡ Found r → (if b then Found x else after) ≡ Found r
      go true a = a
      go false a = ih a

  -- an entry that could be reached still can
  pub probe_keep : (s left r : ℕ) → probe size t (λ e. eqb e r) s left ≡ Found r → probe size (set t k v) (λ e. eqb e r) s left ≡ Found r
  unfolding probe
  probe_keep s zero r h = found_full r (sym h)
  probe_keep s (suc left) r h =
      keep_at (get_or t s 0) s r (probe size t (λ e. eqb e r) (next_slot size s) left) (probe size (set t k v) (λ e. eqb e r) (next_slot size s) left) refl h
      (probe_keep (next_slot size s) left r)

-- an entry that is stored where a search ended is reached by that search
module _ (size : ℕ) (t : List ℕ) (test : ℕ → Bool) (k r : ℕ) (l : length t ≡ size) (z : get_or t k 0 ≡ 0) where
  new_at : (x s : ℕ) (rest after : Looked) → s < length t → get_or t s 0 ≡ x → at_slot x s test rest ≡ Empty k
      → (rest ≡ Empty k → after ≡ Found r) → at_slot (get_or (set t k (suc r)) s 0) s (λ e. eqb e r) after ≡ Found r
  new_at zero s rest after h e a ih =
      let q : s ≡ k = ap inside a in
      let w : get_or (set t k (suc r)) s 0 ≡ suc r = subst (λ (j : ℕ). get_or (set t j (suc r)) s 0 ≡ suc r) q (get_or-set_same t s (suc r) 0 h) in
      rw w (simp (eq-eqb r r refl))
  new_at (suc x) s rest after h e a ih = rw (kept_at size t k (suc r) z s x e) (go (test x) (eqb x r) refl a)
    where
      go : (b d : Bool) → eqb x r ≡ d → (if b then Found x else rest) ≡ Empty k → (if d then Found x else after) ≡ Found r
      go true d q a = found_empty x k a
      go false true q a = ap Found (eqb-true x r q)
      go false false q a = ih a

  pub probe_new : (s left : ℕ) → s < size → probe size t test s left ≡ Empty k → probe size (set t k (suc r)) (λ e. eqb e r) s left ≡ Found r
  unfolding probe
  probe_new s zero h g = empty_full k (sym g)
  probe_new s (suc left) h g =
      new_at (get_or t s 0) s (probe size t test (next_slot size s) left) (probe size (set t k (suc r)) (λ e. eqb e r) (next_slot size s) left) (omega arith) refl g
      (probe_new (next_slot size s) left (next_lt size t test s h))

-- ---- room: where no empty slot is met, none is empty

module _ (size : ℕ) (t : List ℕ) (test : ℕ → Bool) where
  -- the slots that a search from s over so many meets
  pub data Met (s left k : ℕ) : Type 0 where
    on : s ≤ k → k < s + left → Met s left k
    round : k < s → k + size < s + left → Met s left k

  full_at : (x s : ℕ) (rest : Looked) → at_slot x s test rest ≡ Full → (0 < x) × (rest ≡ Full)
  full_at zero s rest a = empty_full s a
  full_at (suc e) s rest a = go (test e) a
    where
      go : (b : Bool) → (if b then Found e else rest) ≡ Full → (0 < suc e) × (rest ≡ Full)
      go true a = found_full e a
      go false a = (omega arith, a)

  pub probe_full : (s left k : ℕ) → s < size → k < size → Met s left k → probe size t test s left ≡ Full → 0 < get_or t k 0
  unfolding probe
  probe_full s zero k hs hk (on a b) g = absurd (omega arith)
  probe_full s zero k hs hk (round a b) g = absurd (omega arith)
  probe_full s (suc left) k hs hk m g =
      let q = full_at (get_or t s 0) s (probe size t test (next_slot size s) left) g in
      ⊎_elim
      (λ e. subst (λ (j : ℕ). 0 < get_or t j 0) (sym e) q.0)
      (λ n. go (ltb (s + 1) size) refl n m (λ h w. probe_full (next_slot size s) left k h hk w q.1))
      (eq_or_ne k s)
    where
      go : (b : Bool) → ltb (s + 1) size ≡ b → (k ≡ s → ⊥) → Met s (suc left) k
          → (next_slot size s < size → Met (next_slot size s) left k → 0 < get_or t k 0) → 0 < get_or t k 0
      go true e n (on a c) ih = let h = ltb-true (s + 1) size e in ih (simp e h) (simp e (on (omega arith) (omega arith)))
      go true e n (round a c) ih = let h = ltb-true (s + 1) size e in ih (simp e h) (simp e (round (omega arith) (omega arith)))
      go false e n (on a c) ih = let h = ltb-false (s + 1) size e in absurd (omega arith)
      go false e n (round a c) ih = let h = ltb-false (s + 1) size e in ih (simp e (omega arith)) (simp e (on (omega arith) (omega arith)))

-- ---- how many slots hold an entry

pub occupied_none : (t : List ℕ) → ((k : ℕ) → get_or t k 0 ≡ 0) → occupied t ≡ 0
unfolding occupied
occupied_none [] h = refl
occupied_none (zero ∷ t) h = occupied_none t (λ k. h (suc k))
occupied_none (suc e ∷ t) h = let z : suc e ≡ 0 = h 0 in absurd (omega arith)

pub occupied_set : (t : List ℕ) (k v : ℕ) → occupied (set t k v) ≤ occupied t + 1
unfolding occupied
occupied_set [] k v = omega arith
occupied_set (zero ∷ t) zero zero = omega arith
occupied_set (zero ∷ t) zero (suc v) = omega arith
occupied_set (suc e ∷ t) zero zero = omega arith
occupied_set (suc e ∷ t) zero (suc v) = omega arith
occupied_set (zero ∷ t) (suc k) v = occupied_set t k v
occupied_set (suc e ∷ t) (suc k) v = let h = occupied_set t k v in omega arith

pub occupied_all : (t : List ℕ) → ((k : ℕ) → k < length t → 0 < get_or t k 0) → occupied t ≡ length t
unfolding occupied
occupied_all [] h = refl
occupied_all (zero ∷ t) h = let z : 0 < 0 = h 0 (omega arith) in absurd (omega arith)
occupied_all (suc e ∷ t) h = ap (λ (n : ℕ). suc n) (occupied_all t (λ k g. h (suc k) (omega arith)))
