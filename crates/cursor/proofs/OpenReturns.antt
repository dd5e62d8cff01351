-- One law for each return of the tests on open subtrees, with premises as the code's tests and calls give them.
use Prim.Native.Nat.{ℕ, zero, suc, ◌+◌, ◌-◌, ◌<◌, ◌≤◌}
use mathlib.Core.Bool.{Bool, true, false, not, ◌&&◌}
use mathlib.Core.Path.{◌≡◌, refl, sym, ap, ◌∙◌, subst}
use mathlib.Core.List.{List, ◌∷◌}
use native.Mathlib.Omega.{arith}
use borrow.Author.Tests.{le-leb, lt-leb, lt-ltb, le-ltb, eq-eqb, ne_eqb, not-true, not-false}
use lib.Dec.{leb, ltb, eqb}
use lib.ListN.{length, get_or}
use Rattle.format.specs.Cursor.{Open, after, nested_in}
use Rattle.cursor.specs.Open.{opened, cursor_of, agreed, closes, inside}
use Rattle.cursor.specs.declared.state.At.{At}

pub opened_length : (ns cs ps : List ℕ) (d : ℕ) → length (opened ns cs ps d) ≡ d
unfolding opened
opened_length ns cs ps zero = refl
opened_length ns cs ps (suc d) = ap suc (opened_length ns cs ps d)

-- ---- whether they nest

module _ (ns cs ps : List ℕ) where
  -- the one of this index
  abbrev pub last_of : ℕ → Open
  last_of i = record { number = get_or ns i 0; count = get_or cs i 0; place = get_or ps i 0 }

  pub opened_last : (d : ℕ) → 0 < d → opened ns cs ps d ≡ last_of (d - 1) ∷ opened ns cs ps (d - 1)
  unfolding opened
  opened_last zero h = absurd (omega arith)
  opened_last (suc d) h = let e : suc d - 1 ≡ d = omega arith in rw e

  -- the whole, from the cursor on; what is left of it, d subtrees
  module _ (n₀ p₀ t₀ d₀ : ℕ) (z : t₀ ≡ n₀) (f a t d : ℕ) (i : nested_in n₀ p₀ t₀ (opened ns cs ps d₀) ≡ nested_in f a t (opened ns cs ps d)) where
    pub nested_all : d ≤ 0 → true ≡ nested_in n₀ p₀ n₀ (opened ns cs ps d₀)
    unfolding nested_in opened
    nested_all h =
        let e : d ≡ 0 = omega arith in
        let q : nested_in f a t (opened ns cs ps d) ≡ true = rw e in
        sym (subst (λ (x : ℕ). nested_in n₀ p₀ x (opened ns cs ps d₀) ≡ true) z (i ∙ q))

    module _ (h : 0 < d) where
      nested_last : nested_in n₀ p₀ n₀ (opened ns cs ps d₀)
          ≡ (ltb (get_or ns (d - 1) 0) f && ltb (get_or ps (d - 1) 0) a && leb t (after (last_of (d - 1)))
          && nested_in (get_or ns (d - 1) 0) (get_or ps (d - 1) 0) (after (last_of (d - 1))) (opened ns cs ps (d - 1)))
      unfolding nested_in
      nested_last =
          let q : nested_in n₀ p₀ t₀ (opened ns cs ps d₀) ≡ nested_in f a t (last_of (d - 1) ∷ opened ns cs ps (d - 1)) = i ∙ ap (nested_in f a t) (opened_last d h) in
          subst (λ (x : ℕ). nested_in n₀ p₀ x (opened ns cs ps d₀) ≡ nested_in f a t (last_of (d - 1) ∷ opened ns cs ps (d - 1))) z q

      pub nested_number : f ≤ get_or ns (d - 1) 0 → false ≡ nested_in n₀ p₀ n₀ (opened ns cs ps d₀)
      nested_number x = sym (nested_last ∙ simp (le-ltb _ _ x))

      module _ (x : get_or ns (d - 1) 0 < f) where
        pub nested_place : a ≤ get_or ps (d - 1) 0 → false ≡ nested_in n₀ p₀ n₀ (opened ns cs ps d₀)
        nested_place y = sym (nested_last ∙ simp (lt-ltb _ _ x, le-ltb _ _ y))

        module _ (y : get_or ps (d - 1) 0 < a) (e : ℕ) (w : e ≡ get_or ns (d - 1) 0 + 1 + get_or cs (d - 1) 0) where
          pub nested_end : e < t → false ≡ nested_in n₀ p₀ n₀ (opened ns cs ps d₀)
          nested_end u =
              let v : leb t (after (last_of (d - 1))) ≡ false = lt-leb t (after (last_of (d - 1))) (omega arith) in
              sym (nested_last ∙ simp (lt-ltb _ _ x, lt-ltb _ _ y, v))

          pub nested_on : t ≤ e → nested_in n₀ p₀ t₀ (opened ns cs ps d₀) ≡ nested_in (get_or ns (d - 1) 0) (get_or ps (d - 1) 0) e (opened ns cs ps (d - 1))
          nested_on u =
              let v : leb t (after (last_of (d - 1))) ≡ true = le-leb t (after (last_of (d - 1))) (omega arith) in
              let q : nested_in n₀ p₀ n₀ (opened ns cs ps d₀) ≡ nested_in (get_or ns (d - 1) 0) (get_or ps (d - 1) 0) (after (last_of (d - 1))) (opened ns cs ps (d - 1))
              = nested_last ∙ simp (lt-ltb _ _ x, lt-ltb _ _ y, v) in
              ap (λ (x : ℕ). nested_in n₀ p₀ x (opened ns cs ps d₀)) z ∙ q ∙ ap (λ (x : ℕ). nested_in (get_or ns (d - 1) 0) (get_or ps (d - 1) 0) x (opened ns cs ps (d - 1))) (sym w)

pub ruleset nested_cases = (nested_all, nested_number, nested_place, nested_end, nested_on)

-- ---- the last one

module _ (n : ℕ) (ns cs : List ℕ) (d : ℕ) where
  pub closes_none : d ≡ 0 → false ≡ closes n ns cs d
  unfolding closes
  closes_none h = rw h

  module _ (h : d ≡ 0 → ⊥) (e x : ℕ) (w : e ≡ get_or ns (d - 1) 0 + 1 + get_or cs (d - 1) 0) (f : x ≡ n) where
    closes_last : closes n ns cs d ≡ eqb n (get_or ns (d - 1) 0 + 1 + get_or cs (d - 1) 0)
    unfolding closes
    closes_last = go d h
      where
        go : (d : ℕ) → (d ≡ 0 → ⊥) → closes n ns cs d ≡ eqb n (get_or ns (d - 1) 0 + 1 + get_or cs (d - 1) 0)
        go zero h = absurd (h refl)
        go (suc d) h = let e : suc d - 1 ≡ d = omega arith in rw e

    pub closes_not : (x ≡ e → ⊥) → false ≡ closes n ns cs d
    closes_not g = let q : n ≡ get_or ns (d - 1) 0 + 1 + get_or cs (d - 1) 0 → ⊥ = λ y. g (f ∙ y ∙ sym w) in sym (closes_last ∙ ne_eqb _ _ q)

    pub closes_here : x ≡ e → true ≡ closes n ns cs d
    closes_here g = sym (closes_last ∙ eq-eqb _ _ (sym f ∙ g ∙ w))

module _ (k m n : ℕ) (ns cs : List ℕ) (d x y z : ℕ) (f : x ≡ k) (g : y ≡ m) (g₂ : z ≡ n) where
  inside_last : (d ≡ 0 → ⊥) → inside k (m + n) ns cs d ≡ (ltb (m + n) k && ltb (m + n) (get_or ns (d - 1) 0 + 1 + get_or cs (d - 1) 0))
  unfolding inside
  inside_last h = go d h
    where
      go : (d : ℕ) → (d ≡ 0 → ⊥) → inside k (m + n) ns cs d ≡ (ltb (m + n) k && ltb (m + n) (get_or ns (d - 1) 0 + 1 + get_or cs (d - 1) 0))
      go zero h = absurd (h refl)
      go (suc d) h = let e : suc d - 1 ≡ d = omega arith in rw e

  pub inside_out : x ≤ y + z → false ≡ inside k (m + n) ns cs d
  unfolding inside
  inside_out h = go d (le-ltb (m + n) k (omega arith))
    where
      go : (d : ℕ) → ltb (m + n) k ≡ false → false ≡ inside k (m + n) ns cs d
      go zero q = sym q
      go (suc d) q = simp q

  module _ (h₁ : y + z < x) where
    pub inside_none : d ≡ 0 → true ≡ inside k (m + n) ns cs d
    unfolding inside
    inside_none h = let q = lt-ltb (m + n) k (omega arith) in rw h (sym q)

    module _ (h : d ≡ 0 → ⊥) (e : ℕ) (w : e ≡ get_or ns (d - 1) 0 + 1 + get_or cs (d - 1) 0) where
      pub inside_past : e ≤ y + z → false ≡ inside k (m + n) ns cs d
      inside_past u =
          let q = lt-ltb (m + n) k (omega arith) in
          let r = le-ltb (m + n) (get_or ns (d - 1) 0 + 1 + get_or cs (d - 1) 0) (omega arith) in
          sym (inside_last h ∙ simp (q, r))

      pub inside_here : y + z < e → true ≡ inside k (m + n) ns cs d
      inside_here u =
          let q = lt-ltb (m + n) k (omega arith) in
          let r = lt-ltb (m + n) (get_or ns (d - 1) 0 + 1 + get_or cs (d - 1) 0) (omega arith) in
          sym (inside_last h ∙ simp (q, r))

pub ruleset last_cases = (closes_none, closes_not, closes_here, inside_out, inside_none, inside_past, inside_here)

-- ---- row 10

module _ (k bytes : ℕ) (c : At) (ns cs ps : List ℕ) where
  pub agrees_number : k < c.number → false ≡ agreed k bytes (cursor_of c ns cs ps)
  agrees_number h = simp (lt-leb _ _ h)

  module _ (h₁ : c.number ≤ k) where
    pub agrees_place : bytes < c.place → false ≡ agreed k bytes (cursor_of c ns cs ps)
    agrees_place h = simp (le-leb _ _ h₁, lt-leb _ _ h)

    module _ (h₂ : c.place ≤ bytes) where
      pub agrees_many : 256 < c.depth → false ≡ agreed k bytes (cursor_of c ns cs ps)
      agrees_many h = simp (le-leb _ _ h₁, le-leb _ _ h₂, opened_length ns cs ps c.depth, lt-leb _ _ h)

      module _ (h₃ : c.depth ≤ 256) (t : Bool) (f : t ≡ nested_in c.number c.place c.number (opened ns cs ps c.depth)) where
        pub agrees_nested : not t ≡ true → false ≡ agreed k bytes (cursor_of c ns cs ps)
        agrees_nested h =
            let g = sym f ∙ not-true t h in
            simp (le-leb _ _ h₁, le-leb _ _ h₂, opened_length ns cs ps c.depth, le-leb _ _ h₃, g)

        pub agrees_all : not t ≡ false → true ≡ agreed k bytes (cursor_of c ns cs ps)
        agrees_all h =
            let g = sym f ∙ not-false t h in
            simp (le-leb _ _ h₁, le-leb _ _ h₂, opened_length ns cs ps c.depth, le-leb _ _ h₃, g)

pub ruleset agrees_cases = (agrees_number, agrees_place, agrees_many, agrees_nested, agrees_all)
