-- What the slots say of a key's first place, and one more entry.
use Prim.Native.Nat.{ℕ, suc, ◌+◌, ◌-◌, ◌<◌, ◌≤◌}
use mathlib.Core.Bool.{Bool, true, false}
use mathlib.Core.Logic.{⊎_elim}
use mathlib.Core.Path.{◌≡◌, refl, ap, sym, ◌∙◌, subst}
use mathlib.Core.List.{List}
use native.Mathlib.Omega.{arith}
use lib.ListN.{length, get_or, set, replicate, length-set, length-replicate, get_or-eq_default}
use Rattle.std.proofs.lemmas.List.{get_or-replicate}
use lib.Seq.{get_or-set_same, get_or-set_other}
use lib.Dec.{eqb}
use Rattle.format.specs.Part.{Part}
use Rattle.format.specs.Writer.{find}
use Rattle.format.proofs.Each.{true_false}
use Rattle.format.proofs.PartLaw.{same_part_lem, part_same}
use Rattle.format.proofs.First.{find_at, find_first, none_find}
use Rattle.places.specs.Key.{is_key}
use Rattle.slots.specs.Probe.{probe}
use Rattle.places.specs.Index.{slot_of, Leads, Held}
use Rattle.slots.specs.declared.probe.Looked.{Looked}
use Rattle.slots.specs.declared.probe.Looked.TheVariants.{Found, Empty, Full}
use Rattle.places.proofs.FindLaw.{find_on, find_here}
use Rattle.format.proofs.Tally.{lt_or_le}
use Rattle.slots.proofs.Cases.{eq_or_ne}
use Rattle.slots.proofs.ProbeLaw.{Nothing, found_empty, probe_miss, probe_found, probe_empty, probe_keep, probe_new, Met, on, round, probe_full, occupied_none, occupied_set, occupied_all}

-- ---- keys that are the same

pub is_key_lem : (key : ℕ → Part) (k : Part) (i : ℕ) → is_key key k i ≡ true → key i ≡ k
unfolding is_key
is_key_lem key k i h = same_part_lem (key i) k h

pub key_is : (key : ℕ → Part) (k : Part) (i : ℕ) → key i ≡ k → is_key key k i ≡ true
unfolding is_key
key_is key k i e = part_same (key i) k e

pub key_not : (key : ℕ → Part) (k : Part) (i : ℕ) → (key i ≡ k → ⊥) → is_key key k i ≡ false
key_not key k i n = go (is_key key k i) refl
  where
    go : (b : Bool) → is_key key k i ≡ b → is_key key k i ≡ false
    go true e = absurd (n (is_key_lem key k i e))
    go false e = e

-- ---- one that leads is its key's first place

module _ (key : ℕ → Part) (g : ℕ) where
  pub lead_first : (k : Part) (e : ℕ) → Leads key g e → key e ≡ k → find (is_key key k) g 0 ≡ e
  lead_first k e L q =
      let eg = L.to in
      let f : find (is_key key k) e 0 ≡ e = subst (λ (x : Part). find (is_key key x) e 0 ≡ e) q L.first in
      let n : g ≡ e + (g - e) = omega arith in
      let m : 0 + e ≡ e = omega arith in
      let p : 0 < g - e = omega arith in
      ap (λ (j : ℕ). find (is_key key k) j 0) n ∙ find_on (is_key key k) e (g - e) 0 (omega arith) ∙ ap (λ (j : ℕ). find (is_key key k) (g - e) j) m
      ∙ find_here (is_key key k) (g - e) e p (key_is key k e q)

  -- two that lead are not alike
  pub lead_once : (i j : ℕ) → Leads key g i → Leads key g j → key i ≡ key j → i ≡ j
  lead_once i j L M e = sym (lead_first (key j) i L e) ∙ lead_first (key j) j M refl

  -- and a key's first place leads
  pub first_leads : (k : Part) (r : ℕ) → find (is_key key k) g 0 ≡ r → r < g → (key r ≡ k) × Leads key g r
  first_leads k r e h =
      let t : is_key key k r ≡ true = subst (λ (j : ℕ). is_key key k j ≡ true) e (find_at (is_key key k) g 0 (omega arith)) in
      let n : find (is_key key k) r 0 ≡ 0 + r = none_find (is_key key k) r 0 (λ m u v. none m u v) in
      let z : 0 + r ≡ r = omega arith in
      let q = is_key_lem key k r t in
      (q, record { to = h; first = subst (λ (x : Part). find (is_key key x) r 0 ≡ r) (sym q) (n ∙ z) })
    where
      none : (m : ℕ) → 0 ≤ m → m < 0 + r → is_key key k m ≡ false
      none m u v = go (is_key key k m) refl
        where
          go : (b : Bool) → is_key key k m ≡ b → is_key key k m ≡ false
          go false q = q
          go true q = let w = find_first (is_key key k) g 0 m q u (omega arith) in absurd (omega arith)

-- ---- what a search finds

module _ (key : ℕ → Part) (g : ℕ) (slots : List ℕ) (H : Held key g slots) where
  pub held_below : (s : ℕ) → get_or slots s 0 ≤ g
  held_below s = ⊎_elim (λ z. let q = (H.entry s z).to in omega arith) (λ z. omega arith) (lt_or_le 0 (get_or slots s 0))

  module _ (k : Part) where
    abbrev looked : Looked
    looked = probe (length slots) slots (is_key key k) (slot_of k (length slots)) (length slots)

    pub held_found : (j : ℕ) → looked ≡ Found j → Leads key g j × (key j ≡ k)
    held_found j h =
        let q = probe_found (length slots) slots (is_key key k) (Leads key g) H.entry (slot_of k (length slots)) (length slots) j h in
        (q.1, is_key_lem key k j q.0)

    pub held_none : Nothing looked → (j : ℕ) → j < g → key j ≡ k → ⊥
    held_none h j l e =
        let m = find_first (is_key key k) g 0 j (key_is key k j e) (omega arith) (omega arith) in
        let r = find (is_key key k) g 0 in
        let q = first_leads key g k r refl (omega arith) in
        let same : slot_of (key r) (length slots) ≡ slot_of k (length slots) = ap (λ (x : Part). slot_of x (length slots)) q.0 in
        let there = subst (λ (s : ℕ). probe (length slots) slots (λ e. eqb e r) s (length slots) ≡ Found r) same (H.reach r q.1) in
        true_false (is_key key k r) (key_is key k r q.0) (probe_miss (length slots) slots (is_key key k) (slot_of k (length slots)) (length slots) r there h)

    -- there is an empty slot
    pub held_room : g < length slots → slot_of k (length slots) < length slots → looked ≡ Full → ⊥
    held_room h s q =
        let all = occupied_all slots (λ i l. probe_full (length slots) slots (is_key key k) (slot_of k (length slots)) (length slots) i s l (met i l) q) in
        let few = H.few in
        omega arith
      where
        met : (i : ℕ) → i < length slots → Met (length slots) slots (is_key key k) (slot_of k (length slots)) (length slots) i
        met i l = ⊎_elim (λ a. round a (omega arith)) (λ a. on a (omega arith)) (lt_or_le i (slot_of k (length slots)))

  -- ---- key g

  later : (r : ℕ) → Leads key g r → Leads key (g + 1) r
  later r L = let h = L.to in record { to = omega arith; first = L.first }

  earlier : (r : ℕ) → Leads key (g + 1) r → (r ≡ g → ⊥) → Leads key g r
  earlier r L n = let h = L.to in record { to = omega arith; first = L.first }

  -- its like is there
  pub enter_found : (e : ℕ) → looked (key g) ≡ Found e → Held key (g + 1) slots
  enter_found e h = record {
    entry = λ s z. later (get_or slots s 0 - 1) (H.entry s z);
    reach = λ r L. H.reach r (earlier r L (λ q. old r L q));
    few = let n = H.few in omega arith;
  }
    where
      old : (r : ℕ) → Leads key (g + 1) r → r ≡ g → ⊥
      old r L q =
          let a = held_found (key g) e h in
          let b = lead_first key g (key g) e a.0 a.1 in
          let c : find (is_key key (key g)) g 0 ≡ g = subst (λ (j : ℕ). find (is_key key (key j)) j 0 ≡ j) q L.first in
          let d = a.0.to in
          omega arith

  -- it is new, and s is empty
  pub enter_new : (s : ℕ) → slot_of (key g) (length slots) < length slots → looked (key g) ≡ Empty s → Held key (g + 1) (set slots s (suc g))
  enter_new s hs h =
      let z = probe_empty (length slots) slots (is_key key (key g)) (slot_of (key g) (length slots)) (length slots) s hs h in
      record {
        entry = λ i p. ⊎_elim
            (λ e. subst (λ (v : ℕ). Leads key (g + 1) (v - 1)) (sym (stored i z.1 e)) (subst (λ (j : ℕ). Leads key (g + 1) j) one new))
            (λ n.
            let o = get_or-set_other slots s i (suc g) 0 n in
            subst (λ (v : ℕ). Leads key (g + 1) (v - 1)) (sym o) (later (get_or slots i 0 - 1) (H.entry i (rw o at p))))
            (eq_or_ne i s);
        reach = λ r L. rw (length-set slots s (suc g)) (⊎_elim
            (λ e. subst (λ (j : ℕ). probe (length slots) (set slots s (suc g)) (λ x. eqb x j) (slot_of (key j) (length slots)) (length slots) ≡ Found j) (sym e)
            (probe_new (length slots) slots (is_key key (key g)) s g refl z.0 (slot_of (key g) (length slots)) (length slots) hs h))
            (λ n. probe_keep (length slots) slots s (suc g) z.0 (slot_of (key r) (length slots)) (length slots) r (H.reach r (earlier r L n)))
            (eq_or_ne r g));
        few = let n = H.few in let m = occupied_set slots s (suc g) in omega arith;
      }
    where
      absent : (j : ℕ) → j < g → key j ≡ key g → ⊥
      absent = held_none (key g) (λ e q. found_empty e s (sym q ∙ h))

      new : Leads key (g + 1) g
      new = record { to = omega arith; first = none_find (is_key key (key g)) g 0 (λ m u v. key_not key (key g) m (absent m (omega arith))) ∙ (let z : 0 + g ≡ g = omega arith in z) }

      one : g ≡ suc g - 1
      one = omega arith

      stored : (i : ℕ) → s < length slots → i ≡ s → get_or (set slots s (suc g)) i 0 ≡ suc g
      stored i l e = ap (λ (j : ℕ). get_or (set slots s (suc g)) j 0) e ∙ get_or-set_same slots s (suc g) 0 l

-- nothing is entered yet
pub held_empty : (key : ℕ → Part) (slots : List ℕ) (n : ℕ) → slots ≡ replicate n 0 → Held key 0 slots
held_empty key slots n Z = record {
  entry = λ s p. let z = zero_at s in absurd (omega arith);
  reach = λ r L. let b = L.to in absurd (omega arith);
  few = let z = occupied_none slots zero_at in omega arith;
}
  where
    zero_at : (k : ℕ) → get_or slots k 0 ≡ 0
    zero_at k = rw Z (⊎_elim (λ h. get_or-replicate n k 0 0 h) (λ h. get_or-eq_default (replicate n 0) 0 {n = k} (simp length-replicate h)) (lt_or_le k n))
