-- One law for each return of the functions of src/index.rt.
use Prim.Native.Nat.{ℕ, suc, ◌+◌, ◌-◌, ◌<◌, ◌≤◌}
use mathlib.Core.Bool.{Bool, true, false}
use mathlib.Core.Path.{◌≡◌, refl, ap, sym, ◌∙◌, subst}
use mathlib.Core.List.{List}
use native.Mathlib.Omega.{arith}
use lib.ListN.{length, get_or, set}
use Rattle.std.specs.Prelude.{Option, Some, None}
use Rattle.std.proofs.lemmas.Option.{none-some}
use Rattle.format.specs.Part.{Part, same_part}
use Rattle.places.specs.Key.{key_at, key_count, shift, is_key}
use Rattle.format.specs.Writer.{find}
use Rattle.format.proofs.First.{none_find}
use Rattle.slots.specs.Probe.{next_slot, probe}
use Rattle.places.specs.Index.{slot_of, probe_for, Held, Loaded, Within, Leads, Finds}
use Rattle.places.specs.declared.key.Layout.{Layout}
use Rattle.slots.specs.declared.probe.Looked.{Looked}
use Rattle.slots.specs.declared.probe.Looked.TheVariants.{Found, Empty, Full}
use Rattle.slots.proofs.ProbeLaw.{probe_empty}
use Rattle.slots.proofs.LookLaw.{look_full, look_empty, look_found, look_on}
use Rattle.places.proofs.FindLaw.{find_same}
use Rattle.places.proofs.IndexLaw.{key_not, lead_first, held_below, held_found, held_none, held_room, enter_found, enter_new, held_empty}

-- ---- a search

pub within_key : (t : List ℕ) (w : Layout) (base : ℕ) (slots : List ℕ) (s x : ℕ) → Within t w base slots → x ≡ get_or slots s 0 → (x ≡ 0 → ⊥) → base + (x - 1) < key_count t w
within_key t w base slots s x W e z = let h = W.at s in omega arith

module _ (key : ℕ → Part) (k : Part) (N : ℕ) (t : List ℕ) (start s left : ℕ) (inv : probe N t (is_key key k) start N ≡ probe N t (is_key key k) s left) where
  module _ (h : 0 < left) (e : ℕ) (q : e ≡ get_or t s 0) (z : e ≡ 0 → ⊥) (there : Part) (w : there ≡ key (e - 1)) (b : Bool) (a : b ≡ same_part there k) where
    here : b ≡ is_key key k (e - 1)
    unfolding is_key
    here = a ∙ ap (λ (x : Part). same_part x k) w

    pub key_found : b ≡ true → Found (e - 1) ≡ probe N t (is_key key k) start N
    key_found y = look_found N t (is_key key k) start s left inv h e q z b here y

    pub key_on : b ≡ false → (s' left' : ℕ) → s' ≡ next_slot N s → left' + 1 ≡ left → probe N t (is_key key k) start N ≡ probe N t (is_key key k) s' left'
    key_on y s' left' n m =
        let r : left' ≡ left - 1 = omega arith in
        rw r (look_on N t (is_key key k) start s left inv h e q z b here y s' n)

pub ruleset look_cases = (within_key, look_full, look_empty)

-- ---- a key

module _ (key : ℕ → Part) (k : Part) (slots : List ℕ) (start : ℕ) (es : start ≡ slot_of k (length slots)) (q : Looked) (eq : q ≡ probe_for key k slots start (length slots)) where
  looked : (r : Looked) → q ≡ r → probe (length slots) slots (is_key key k) (slot_of k (length slots)) (length slots) ≡ r
  looked r e = ap (λ (s : ℕ). probe (length slots) slots (is_key key k) s (length slots)) (sym es) ∙ sym eq ∙ e

module _ (t : List ℕ) (w : Layout) (base g : ℕ) (slots : List ℕ) (L : Loaded t w base g slots) where
  pub loaded_within : Within t w base slots
  loaded_within = record { at = λ s. let h = held_below (shift (key_at t w) base) g slots L.held s in let i = L.inside in omega arith }

  pub loaded_some : 0 < length slots
  loaded_some = L.some

  pub loaded_most : length slots ≤ 1048576
  loaded_most = L.most

  module _ (k : Part) (start : ℕ) (es : start ≡ slot_of k (length slots)) (q : Looked) (eq : q ≡ probe_for (shift (key_at t w) base) k slots start (length slots)) where
    found : (r : Looked) → q ≡ r → probe (length slots) slots (is_key (shift (key_at t w) base) k) (slot_of k (length slots)) (length slots) ≡ r
    found r e = looked (shift (key_at t w) base) k slots start es q eq r e

    pub finds_some : (j : ℕ) → q ≡ Found j → Finds (shift (key_at t w) base) g k (Some j)
    finds_some j h = record {
      found = λ i e. let p : j ≡ i = cc in subst (λ (x : ℕ). Leads (shift (key_at t w) base) g x × (shift (key_at t w) base x ≡ k)) p (held_found (shift (key_at t w) base) g slots L.held k j (found (Found j) h));
      none = λ e. absurd (none-some j (sym e));
    }

    pub finds_none : ((j : ℕ) → q ≡ Found j → ⊥) → Finds (shift (key_at t w) base) g k None
    finds_none h = record {
      found = λ i e. absurd (none-some i e);
      none = λ e. held_none (shift (key_at t w) base) g slots L.held k (λ j p. h j (sym (found _ refl) ∙ p));
    }

pub ruleset find_cases = (loaded_within, loaded_some, loaded_most, finds_some, finds_none)

-- ---- one more key

pub held_within : (t : List ℕ) (w : Layout) (base g : ℕ) (slots : List ℕ) → Held (shift (key_at t w) base) g slots → base + g < key_count t w → Within t w base slots
held_within t w base g slots H h = record { at = λ s. let b = held_below (shift (key_at t w) base) g slots H s in omega arith }

module _ (key : ℕ → Part) (g : ℕ) (slots : List ℕ) (H : Held key g slots) (k : Part) (ek : k ≡ key g) (start : ℕ) (es : start ≡ slot_of k (length slots)) (q : Looked)
    (eq : q ≡ probe_for key k slots start (length slots)) where
  looked_g : (r : Looked) → q ≡ r → probe (length slots) slots (is_key key (key g)) (slot_of (key g) (length slots)) (length slots) ≡ r
  looked_g r e = subst (λ (x : Part). probe (length slots) slots (is_key key x) (slot_of x (length slots)) (length slots) ≡ r) ek (looked key k slots start es q eq r e)

  below_g : start < length slots → slot_of (key g) (length slots) < length slots
  below_g h = subst (λ (x : Part). slot_of x (length slots) < length slots) ek (subst (λ (x : ℕ). x < length slots) es h)

  pub enter_slot : (s : ℕ) → q ≡ Empty s → start < length slots → s < length slots
  enter_slot s h l = (probe_empty (length slots) slots (is_key key k) start (length slots) s l (sym eq ∙ h)).1

  pub enter_stored : (s : ℕ) → q ≡ Empty s → start < length slots → Held key (g + 1) (set slots s (g + 1))
  enter_stored s h hs =
      let e : g + 1 ≡ suc g = omega arith in
      subst (λ (v : ℕ). Held key (g + 1) (set slots s v)) (sym e) (enter_new key g slots H s (below_g hs) (looked_g (Empty s) h))

  enter_old : (e : ℕ) → q ≡ Found e → Held key (g + 1) slots
  enter_old e h = enter_found key g slots H e (looked_g (Found e) h)

  -- there is room
  enter_full : q ≡ Full → start < length slots → g < length slots → Held key (g + 1) slots
  enter_full h hs few = absurd (held_room key g slots H (key g) few (below_g hs) (looked_g Full h))

  pub enter_kept : ((s : ℕ) → q ≡ Empty s → ⊥) → start < length slots → g < length slots → Held key (g + 1) slots
  enter_kept n hs few = go q refl
    where
      go : (r : Looked) → q ≡ r → Held key (g + 1) slots
      go (Found e) h = enter_old e h
      go (Empty s) h = absurd (n s h)
      go Full h = enter_full h hs few

pub ruleset enter_cases = (held_within)

-- ---- all of them

pub held_all : (key : ℕ → Part) (g i : ℕ) (slots : List ℕ) → Held key i slots → i ≤ g → g ≤ i → Held key g slots
held_all key g i slots H a b = let e : i ≡ g = omega arith in subst (λ (j : ℕ). Held key j slots) e H

pub loaded : (t : List ℕ) (w : Layout) (base g : ℕ) (slots : List ℕ) (n m : ℕ) → Held (shift (key_at t w) base) g slots → base + g ≤ key_count t w → g ≤ 2097152
    → length slots ≡ n → n ≡ m → 0 < m → m ≤ 1048576 → Loaded t w base g slots
loaded t w base g slots n m H b c d e x y = record { inside = b; bound = c; some = omega arith; most = omega arith; held = H }

pub ruleset load_cases = (held_empty, held_all, loaded)

-- ---- a key's place

shift_none : (key : ℕ → Part) (k : Part) (i : ℕ) → is_key (shift key 0) k i ≡ is_key key k i
unfolding is_key shift
shift_none key k i = let z : 0 + i ≡ i = omega arith in ap (λ (x : ℕ). same_part (key x) k) z

-- of keys from the first on
pub unshifted : (key : ℕ → Part) (k : Part) (g : ℕ) → find (is_key (shift key 0) k) g 0 ≡ find (is_key key k) g 0
unshifted key k g = find_same _ _ (shift_none key k) g 0

module _ (key : ℕ → Part) (g : ℕ) (k : Part) (q : Option ℕ) (F : Finds key g k q) where
  pub place_some : (j : ℕ) → q ≡ Some j → j ≡ find (is_key key k) g 0
  place_some j h = sym (lead_first key g k j (F.found j h).0 (F.found j h).1)

  pub place_none : q ≡ None → g ≡ find (is_key key k) g 0
  place_none h =
      let z : 0 + g ≡ g = omega arith in
      sym z ∙ sym (none_find (is_key key k) g 0 (λ m u v. key_not key k m (F.none h m (omega arith))))

  pub found_below : (j : ℕ) → q ≡ Some j → j < g
  found_below j h = (F.found j h).0.to

pub loaded_bound : (t : List ℕ) (w : Layout) (base g : ℕ) (slots : List ℕ) → Loaded t w base g slots → g ≤ 2097152
loaded_bound t w base g slots L = L.bound

pub ruleset place_cases = (place_some, place_none, found_below, loaded_bound)
