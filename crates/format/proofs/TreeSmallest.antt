-- No reading of a tree below the root takes fewer bytes than the writer spends on it, over indices that are no higher and with children that take no more bytes.
use Prim.Native.Nat.{ℕ, ◌+◌, ◌*◌, ◌-◌, ◌/◌, ◌%◌, ◌≤◌, ◌<◌}
use mathlib.Core.Bool.{Bool, true, false, ◌&&◌}
use mathlib.Core.Path.{◌≡◌, refl, subst}
use mathlib.Core.List.{List, [], ◌∷◌, ◌++◌}
use native.Mathlib.Omega.{arith}
use borrow.Author.Tests.{le-leb, eq-eqb, lt-ltb, eqb-true}
use lib.Dec.{leb, eqb, ltb}
use lib.ListN.{length, length-append}
use Rattle.std.specs.Prelude.{if◌then◌else◌}
use Rattle.format.specs.Word.{AreBytes, byte_at, half_at, word_at, half_bytes, word_bytes}
use Rattle.format.specs.Span.{Span, SpanRead, span, span_at, SymbolRead, symbol, symbol_at}
use Rattle.format.specs.Reader.{Reply, got, bad}
use Rattle.format.specs.Tree.{Raw, punct, ident, literal, subtree, is_raw_kind, need, ident_of, literal_of, bits_agree, moved, form000, form001, form010, closed101, short_kind, short_raw, form_short, form111, controlled, after_span, tree_at}
use Rattle.format.specs.Write.{join, byte, span_bytes, symbol_bytes, short_base, literal_bytes, apart, near, fits000, fits001, fits010, bytes000, bytes001, bytes010, bytes101, subtree_bytes, tree_bytes}
use Rattle.format.proofs.Each.{true_false, and₄}
use Rattle.format.proofs.SubtreeForm.{subtree_form_lem}
use Rattle.format.proofs.TreeBack.{near_true}
use Rattle.format.proofs.TreeBounds.{choice}
use Rattle.format.proofs.WriteSize.{span_size_lem}
use Rattle.format.proofs.Smallest.{span_lower, symbol_lower, span_smallest, symbol_smallest}

-- ---- what the writer spends on a subtree: "Subtree forms are tried in the order 000, 001, 010, 101"

module _ (s t : Span) where
  -- 000 has the distance in the place of the length
  abbrev distance_span : Span
  distance_span = record { index = s.index; start = s.start; len = apart s t }

  -- … which makes no span longer up to 255
  near_span : apart s t ≤ 255 → length (span_bytes 0 distance_span) ≤ length (span_bytes 0 s)
  near_span h = span_lower 0 0 distance_span s (omega arith) (omega arith) (omega arith)

module _ (s t : Span) (n d kids : ℕ) where
  length_000 : length (bytes000 s t n d kids) ≡ length (span_bytes 0 (distance_span s t)) + 3
  length_000 = length-append (span_bytes 0 (distance_span s t)) ((8 * d + 32 * (apart s t / 256)) ∷ n ∷ kids ∷ [])

  length_001 : length (bytes001 s t n d kids) ≡ length (span_bytes 0 s) + 3
  length_001 = length-append (span_bytes 0 s) ((1 + 8 * d + 32 * apart s t) ∷ n ∷ kids ∷ [])

  length_010 : length (bytes010 s t n d kids) ≡ length (span_bytes 0 s) + 5
  length_010 = length-append (span_bytes 0 s) ((2 + 8 * d + 32 * (t.index % 8)) ∷ apart s t ∷ n ∷ half_bytes (16 * kids + t.index / 8))

  length_101 : length (bytes101 s t n d kids) ≡ length (span_bytes 0 s) + length (span_bytes 0 t) + 9
  length_101 =
      let zs : List ℕ = join (word_bytes n ∷ word_bytes kids ∷ []) in
      omega (arith, length-append (span_bytes 0 s) ((5 + 8 * d) ∷ (span_bytes 0 t ++ zs)), length-append (span_bytes 0 t) zs)

  by_000 : fits000 s t n kids ≡ true → length (subtree_bytes s t n d kids) ≡ length (span_bytes 0 (distance_span s t)) + 3
  unfolding subtree_bytes
  by_000 e = simp e length_000

  -- where 001 fits, no more: by 000 or by 001. Whether 010 fits is asked too: tried before 001 it would take two bytes more
  by_001 : fits001 s t n kids ≡ true → length (subtree_bytes s t n d kids) ≤ length (span_bytes 0 s) + 3
  unfolding subtree_bytes
  by_001 f = go _ _ refl refl
    where
      q : apart s t ≤ 7
      q = (near_true s t 7 (and₄ (eqb s.index t.index) (leb n 255 && leb kids 255) (eqb s.len t.len) (near s t 7) f).3).1

      go : (x z : Bool) → fits000 s t n kids ≡ x → fits010 s t n kids ≡ z → length (subtree_bytes s t n d kids) ≤ length (span_bytes 0 s) + 3
      go true z e g = let l = length_000 in let h = q in let m = near_span s t (omega arith) in simp e (omega arith)
      go false true e g = let l = length_001 in let k = length_010 in simp (e, f, g) (omega arith)
      go false false e g = let l = length_001 in simp (e, f, g) (omega arith)

  -- where 010 fits, two more at most
  by_010 : fits010 s t n kids ≡ true → length (subtree_bytes s t n d kids) ≤ length (span_bytes 0 s) + 5
  unfolding subtree_bytes
  by_010 g = go _ _ refl refl
    where
      q : apart s t ≤ 255
      q = (near_true s t 255 (and₄ (leb n 255 && leb kids 4095) (eqb s.len t.len) (near s t 255) (leb t.index 127) g).2).1

      go : (x y : Bool) → fits000 s t n kids ≡ x → fits001 s t n kids ≡ y → length (subtree_bytes s t n d kids) ≤ length (span_bytes 0 s) + 5
      go true y e f = let l = length_000 in let m = near_span s t q in simp e (omega arith)
      go false true e f = let l = length_001 in let k = length_010 in simp (e, f, g) (omega arith)
      go false false e f = let l = length_010 in simp (e, f, g) (omega arith)

  -- never more than by 101, which has at least 4 + 4 + 9 bytes, where 000 has at most 12 + 3
  by_101 : length (subtree_bytes s t n d kids) ≤ length (span_bytes 0 s) + length (span_bytes 0 t) + 9
  by_101 =
      let a = (span_size_lem 0 s).least in
      let c = (span_size_lem 0 t).least in
      let x = (span_size_lem 0 (distance_span s t)).most in
      let l₀ = length_000 in
      let l₁ = length_001 in
      let l₂ = length_010 in
      let l₃ = length_101 in
      subtree_form_lem (λ xs. length xs ≤ length (span_bytes 0 s) + length (span_bytes 0 t) + 9) s t n d kids (λ e. omega arith) (λ e. omega arith) (λ e. omega arith) (omega arith)

-- ---- the tests, by what they say

module _ (s t : Span) (n kids : ℕ) (o : s.start ≤ t.start) (few : n ≤ 255) where
  fit_000 : s.index ≡ t.index → kids ≤ 255 → s.len ≡ 1 → t.len ≡ 1 → apart s t ≤ 2047 → fits000 s t n kids ≡ true
  fit_000 i h a c l = rw (eq-eqb _ _ i, le-leb _ _ few, le-leb _ _ h, eq-eqb _ _ a, eq-eqb _ _ c, le-leb _ _ o, le-leb _ _ l)

  fit_001 : s.index ≡ t.index → kids ≤ 255 → s.len ≡ t.len → apart s t ≤ 7 → fits001 s t n kids ≡ true
  fit_001 i h a l = rw (eq-eqb _ _ i, le-leb _ _ few, le-leb _ _ h, eq-eqb _ _ a, le-leb _ _ o, le-leb _ _ l)

  fit_010 : kids ≤ 4095 → s.len ≡ t.len → apart s t ≤ 255 → t.index ≤ 127 → fits010 s t n kids ≡ true
  fit_010 h a l i = rw (le-leb _ _ few, le-leb _ _ h, eq-eqb _ _ a, le-leb _ _ o, le-leb _ _ l, le-leb _ _ i)

-- ---- what the writer spends on a literal

module _ (s : Span) (i k r x : ℕ) where
  abbrev span_and_symbol : ℕ
  span_and_symbol = length (span_bytes 0 s) + length (symbol_bytes 0 i)

  length_short : length (join (span_bytes 0 s ∷ byte (short_base k r + 16 * x) ∷ symbol_bytes 0 i ∷ [])) ≡ span_and_symbol + 1
  length_short = omega (arith, length-append (span_bytes 0 s) ((short_base k r + 16 * x) ∷ symbol_bytes 0 i))

  length_raw : length (join (span_bytes 0 s ∷ byte (7 + 8 * k) ∷ byte r ∷ byte x ∷ symbol_bytes 0 i ∷ [])) ≡ span_and_symbol + 3
  length_raw = omega (arith, length-append (span_bytes 0 s) ((7 + 8 * k) ∷ r ∷ x ∷ symbol_bytes 0 i))

  length_long : length (join (span_bytes 0 s ∷ byte (7 + 8 * k) ∷ byte x ∷ symbol_bytes 0 i ∷ [])) ≡ span_and_symbol + 2
  length_long = omega (arith, length-append (span_bytes 0 s) ((7 + 8 * k) ∷ x ∷ symbol_bytes 0 i))

  by_short : ltb 0 (short_base k r) ≡ true → x ≤ 15 → length (literal_bytes s i k r x) ≡ span_and_symbol + 1
  unfolding literal_bytes
  by_short e h = let f = le-leb x 15 h in simp (e, f) length_short

  by_long : (z : Bool) → is_raw_kind k ≡ z → length (literal_bytes s i k r x) ≤ span_and_symbol + (if z then 3 else 2)
  unfolding literal_bytes
  by_long z f = go _ refl z f
    where
      go : (y : Bool) → (ltb 0 (short_base k r) && leb x 15) ≡ y → (z : Bool) → is_raw_kind k ≡ z → length (literal_bytes s i k r x) ≤ span_and_symbol + (if z then 3 else 2)
      go true e true f = let l = length_short in simp e (omega arith)
      go true e false f = let l = length_short in simp e (omega arith)
      go false e true f = let l = length_raw in simp (e, f) (omega arith)
      go false e false f = let l = length_long in simp (e, f) (omega arith)

-- kinds and raw counts that are read from a short form have one
base_some : (x : ℕ) → ltb 0 (short_base (short_kind x) (short_raw x)) ≡ true
base_some x = go _ _ _ refl refl refl
  where
    go : (a c d : Bool) → eqb x 3 ≡ a → eqb x 12 ≡ c → eqb x 11 ≡ d → ltb 0 (short_base (short_kind x) (short_raw x)) ≡ true
    go true c d e f g = simp e
    go false true d e f g = simp (e, f)
    go false false true e f g = simp (e, f, g)
    go false false false e f g = simp (e, f, g)

-- ---- a tree whose parts and symbol are named by other indices

module _ (f g : ℕ → ℕ) where
  abbrev pub named_span : Span → Span
  named_span s = record { index = f s.index; start = s.start; len = s.len }

  abbrev pub named : Raw → Raw
  named (punct s c x) = punct (named_span s) c x
  named (ident s i r) = ident (named_span s) (g i) r
  named (literal s i k r x) = literal (named_span s) (g i) k r x
  named (subtree s t n d) = subtree (named_span s) (named_span t) n d

  -- … and none is higher
  abbrev pub Lower : Raw → Type 0
  Lower (punct s c x) = f s.index ≤ s.index
  Lower (ident s i r) = (f s.index ≤ s.index) × (g i ≤ i)
  Lower (literal s i k r x) = (f s.index ≤ s.index) × (g i ≤ i)
  Lower (subtree s t n d) = (f s.index ≤ s.index) × (f t.index ≤ t.index)

  span_named : (x : ℕ) (s : Span) → f s.index ≤ s.index → length (span_bytes x (named_span s)) ≤ length (span_bytes 0 s)
  span_named x s h = span_lower x 0 (named_span s) s h (omega arith) (omega arith)

  module _ (b : List ℕ) (bytes : AreBytes b) (m : ℕ) (below : eqb m 0 ≡ false) where
    -- what is read from p on takes at least as many bytes as are written for it, with h children bytes where no fewer were stored
    abbrev Enough : ℕ → Reply Raw → Type 0
    Enough p (got t next kids) = Lower t → (h : ℕ) → h ≤ kids → p + length (tree_bytes m (named t) h) ≤ next
    Enough p (bad r) = Unit {0}

    needed : (p q : ℕ) (r : Reply Raw) → Enough p r → Enough p (need b q r)
    needed p q r e = choice (Enough p) (leb q (length b)) r (bad 7) e tt

    -- behind a span of s from p to q
    module _ (p : ℕ) (s : Span) (q : ℕ) (sp : p + length (span_bytes 0 s) ≤ q) where
      ident_enough : (r : SymbolRead) → symbol_at b q ≡ r → Enough p (ident_of s r)
      unfolding tree_bytes
      ident_enough (symbol t i next) e = λ L h l.
          let y = symbol_smallest b bytes q t i next e in
          let a = span_named 2 s L.0 in
          let c = symbol_lower t t (g i) i L.1 in
          let d = length-append (span_bytes 2 (named_span s)) (symbol_bytes t (g i)) in
          omega arith
      ident_enough SymbolRead.short e = tt

      -- a literal that takes w bytes beside its span and symbol, which stands at q + w
      literal_enough : (w k r x : ℕ) → ((i : ℕ) → length (literal_bytes (named_span s) i k r x) ≤ length (span_bytes 0 (named_span s)) + length (symbol_bytes 0 i) + w)
          → (y : SymbolRead) → symbol_at b (q + w) ≡ y → Enough p (literal_of s k r x y)
      unfolding tree_bytes
      literal_enough w k r x most (symbol t i next) e = λ L h l.
          let y = symbol_smallest b bytes (q + w) t i next e in
          let a = span_named 0 s L.0 in
          let c = symbol_lower 0 t (g i) i L.1 in
          let d = most (g i) in
          omega arith
      literal_enough w k r x most SymbolRead.short e = tt

      short_enough : (c : ℕ) → c < 256 → Enough p (form_short b s q c)
      short_enough c hc =
          literal_enough 1 (short_kind (c % 16)) (short_raw (c % 16)) (c / 16)
          (λ i. let l = by_short (named_span s) i (short_kind (c % 16)) (short_raw (c % 16)) (c / 16) (base_some (c % 16)) (omega arith) in omega arith)
          (symbol_at b (q + 1)) refl

      long_enough : (c : ℕ) → Enough p (form111 b s q c)
      long_enough c = go _ _ refl refl
        where
          go : (x y : Bool) → ltb 10 (c / 8) ≡ x → is_raw_kind (c / 8) ≡ y → Enough p (form111 b s q c)
          go true y e f = simp e tt
          go false true e f =
              simp (e, f) (needed p (q + 3) _ (literal_enough 3 (c / 8) (byte_at b (q + 1)) (byte_at b (q + 2))
              (λ i. by_long (named_span s) i (c / 8) (byte_at b (q + 1)) (byte_at b (q + 2)) true f) (symbol_at b (q + 3)) refl))
          go false false e f =
              simp (e, f) (needed p (q + 2) _ (literal_enough 2 (c / 8) 0 (byte_at b (q + 1))
              (λ i. by_long (named_span s) i (c / 8) 0 (byte_at b (q + 1)) false f) (symbol_at b (q + 2)) refl))

      punct_enough : (c x w : ℕ) → (ltb c 128 ≡ false → 5 ≤ w) → 1 ≤ w → Enough p (got (punct s c x) (q + w) 0)
      unfolding tree_bytes
      punct_enough c x w wide some = λ L h l. go L _ refl
        where
          go : f s.index ≤ s.index → (y : Bool) → ltb c 128 ≡ y → p + length (tree_bytes m (punct (named_span s) c x) 0) ≤ q + w
          go L true e =
              let a = span_named (1 + 2 * (x / 2)) s L in
              let d = length-append (span_bytes (1 + 2 * (x / 2)) (named_span s)) ((2 * c + x % 2) ∷ []) in
              simp e (omega arith)
          go L false e =
              let a = span_named 0 s L in
              let d = length-append (span_bytes 0 (named_span s)) ((6 + 8 * x) ∷ word_bytes c) in
              let z = wide e in
              simp e (omega arith)

      -- a subtree, by what the writer spends
      sub_enough : (s' t : Span) (n d next kids : ℕ)
          → (Lower (subtree s' t n d) → (h : ℕ) → h ≤ kids → p + length (subtree_bytes (named_span s') (named_span t) n d h) ≤ next) → Enough p (got (subtree s' t n d) next kids)
      unfolding tree_bytes
      sub_enough s' t n d next kids e = λ L h l. simp below (e L h l)

      -- the stored length is the distance, which "those bits" bound
      enough_000 : (c : ℕ) → c < 256 → Enough p (form000 b s q c)
      enough_000 c hc = needed p (q + 3) _ (go _ refl)
        where
          u : Span
          u = record { index = s.index; start = s.start; len = 1 }

          v : Span
          v = record { index = s.index; start = s.start + s.len; len = 1 }

          n : ℕ
          n = byte_at b (q + 1)

          d : ℕ
          d = c / 8 % 4

          go : (x : Bool) → bits_agree s c ≡ x → Enough p (if bits_agree s c then got (subtree u v n d) (q + 3) (byte_at b (q + 2)) else bad 2)
          go false e = simp e tt
          go true e =
              simp e
              (sub_enough u v n d (q + 3) (byte_at b (q + 2))
              (λ L h l.
              let j = eqb-true (c / 32) (s.len / 256) e in
              let n₀ = bytes.below (q + 1) in
              let k₀ = bytes.below (q + 2) in
              let w : s.start + s.len - s.start ≡ s.len = omega arith in
              let i = L.0 in
              let a = span_lower 0 0 (distance_span (named_span u) (named_span v)) s i (omega arith) (omega arith) in
              let e₀ = fit_000 (named_span u) (named_span v) n h (omega arith) (omega arith) refl (omega arith) refl refl (omega arith) in
              let z = by_000 (named_span u) (named_span v) n d h e₀ in
              omega arith))

      enough_001 : (c : ℕ) → c < 256 → Enough p (form001 b s q c)
      enough_001 c hc =
          needed p (q + 3) _
          (sub_enough s (moved s s.index (c / 32)) (byte_at b (q + 1)) (c / 8 % 4) (q + 3) (byte_at b (q + 2))
          (λ L h l.
          let n = bytes.below (q + 1) in
          let k = bytes.below (q + 2) in
          let a = span_named 0 s L.0 in
          let e = fit_001 (named_span s) (named_span (moved s s.index (c / 32))) (byte_at b (q + 1)) h (omega arith) (omega arith) refl (omega arith) refl (omega arith) in
          let z = by_001 (named_span s) (named_span (moved s s.index (c / 32))) (byte_at b (q + 1)) (c / 8 % 4) h e in
          omega arith))

      enough_010 : (c : ℕ) → c < 256 → Enough p (form010 b s q c)
      unfolding half_at
      enough_010 c hc =
          let t : Span = moved s (c / 32 + 8 * (half_at b (q + 3) % 16)) (byte_at b (q + 1)) in
          needed p (q + 5) _
          (sub_enough s t (byte_at b (q + 2)) (c / 8 % 4) (q + 5) (half_at b (q + 3) / 16)
          (λ L h l.
          let n = bytes.below (q + 2) in
          let g₀ = bytes.below (q + 1) in
          let k₀ = bytes.below (q + 3) in
          let k₁ = bytes.below (q + 3 + 1) in
          let a = span_named 0 s L.0 in
          let i = L.1 in
          let e = fit_010 (named_span s) (named_span t) (byte_at b (q + 2)) h (omega arith) (omega arith) (omega arith) refl (omega arith) (omega arith) in
          let z = by_010 (named_span s) (named_span t) (byte_at b (q + 2)) (c / 8 % 4) h e in
          omega arith))

      enough_101 : (c : ℕ) (r : SpanRead) → span_at b (q + 1) ≡ r → Enough p (closed101 b s c r)
      enough_101 c (span x t r) e =
          needed p (r + 8) _
          (sub_enough s t (word_at b r) (c / 8) (r + 8) (word_at b (r + 4))
          (λ L h l.
          let y = span_smallest b bytes (q + 1) x t r e in
          let w = span_lower 0 x t t (omega arith) (omega arith) (omega arith) in
          let a = span_named 0 s L.0 in
          let k = span_named 0 t L.1 in
          let z = by_101 (named_span s) (named_span t) (word_at b r) (c / 8) h in
          omega arith))
      enough_101 c SpanRead.short e = tt

      control_enough : (c : ℕ) → c < 256 → Enough p (controlled b s q c)
      unfolding controlled
      control_enough c hc = go _ _ _ _ _ _ refl refl refl refl refl refl
        where
          go : (x₀ x₁ x₂ x₅ x₆ x₇ : Bool) → eqb (c % 8) 0 ≡ x₀ → eqb (c % 8) 1 ≡ x₁ → eqb (c % 8) 2 ≡ x₂ → eqb (c % 8) 5 ≡ x₅ → eqb (c % 8) 6 ≡ x₆ → eqb (c % 8) 7 ≡ x₇
              → Enough p (controlled b s q c)
          go true x₁ x₂ x₅ x₆ x₇ e₀ e₁ e₂ e₅ e₆ e₇ = simp e₀ (enough_000 c hc)
          go false true x₂ x₅ x₆ x₇ e₀ e₁ e₂ e₅ e₆ e₇ = simp (e₀, e₁) (enough_001 c hc)
          go false false true x₅ x₆ x₇ e₀ e₁ e₂ e₅ e₆ e₇ = simp (e₀, e₁, e₂) (enough_010 c hc)
          go false false false true x₆ x₇ e₀ e₁ e₂ e₅ e₆ e₇ = simp (e₀, e₁, e₂, e₅) (enough_101 c (span_at b (q + 1)) refl)
          go false false false false true x₇ e₀ e₁ e₂ e₅ e₆ e₇ = simp (e₀, e₁, e₂, e₅, e₆) (needed p (q + 5) _ (punct_enough (word_at b (q + 1)) (c / 8) 5 (λ z. omega arith) (omega arith)))
          go false false false false false true e₀ e₁ e₂ e₅ e₆ e₇ = simp (e₀, e₁, e₂, e₅, e₆, e₇) (long_enough c)
          go false false false false false false e₀ e₁ e₂ e₅ e₆ e₇ = simp (e₀, e₁, e₂, e₅, e₆, e₇) (short_enough c hc)

    after_enough : (p : ℕ) (r : SpanRead) → span_at b p ≡ r → Enough p (after_span b r)
    unfolding after_span
    after_enough p (span x s q) d = needed p (q + 1) _ (go _ _ refl refl)
      where
        sp : p + length (span_bytes 0 s) ≤ q
        sp = let y = span_smallest b bytes p x s q d in let w = span_lower 0 x s s (omega arith) (omega arith) (omega arith) in omega arith

        go : (y z : Bool) → eqb (x % 2) 1 ≡ y → eqb (x / 2) 1 ≡ z
            → Enough p (if eqb (x % 2) 1 then got (punct s (byte_at b q / 2) (byte_at b q % 2 + 2 * (x / 2))) (q + 1) 0 else
            (if eqb (x / 2) 1 then ident_of s (symbol_at b q) else controlled b s q (byte_at b q)))
        go true z e h =
            let l = bytes.below q in
            let c = lt-ltb (byte_at b q / 2) 128 (omega arith) in
            simp e (punct_enough p s q sp (byte_at b q / 2) (byte_at b q % 2 + 2 * (x / 2)) 1 (λ w. true_false (ltb (byte_at b q / 2) 128) c w) (omega arith))
        go false true e h = simp (e, h) (ident_enough p s q sp (symbol_at b q) refl)
        go false false e h = simp (e, h) (control_enough p s q sp (byte_at b q) (bytes.below q))
    after_enough p SpanRead.short d = tt

    -- NO FEWER BYTES: a tree is read from as many as the writer spends on it at least
    pub tree_smallest : (p : ℕ) (t : Raw) (next kids : ℕ) → tree_at b p ≡ got t next kids → Lower t → (h : ℕ) → h ≤ kids → p + length (tree_bytes m (named t) h) ≤ next
    unfolding tree_at
    tree_smallest p t next kids e = subst (Enough p) e (after_enough p (span_at b p) refl)
