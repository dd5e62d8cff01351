-- What reading a tree says of its spans, by the form; a tree below the root that the writer made stores no loose span.
use Prim.Native.Nat.{ℕ, zero, suc, ◌+◌, ◌*◌, ◌/◌, ◌%◌, ◌≤◌, ◌<◌}
use mathlib.Core.Bool.{Bool, true, false, ◌&&◌, ◌||◌}
use mathlib.Core.Path.{◌≡◌, refl, sym, ap, ◌∙◌, subst}
use mathlib.Core.List.{List, [], ◌∷◌, ◌++◌}
use native.Mathlib.Omega.{arith}
use borrow.Author.Tests.{ne_eqb, lt-ltb, le-leb}
use lib.Dec.{ltb, leb, eqb}
use lib.ListN.{length}
use Rattle.std.specs.Prelude.{if◌then◌else◌}
use Rattle.format.specs.Word.{byte_at, half_bytes, word_bytes}
use Rattle.format.specs.Span.{Span, SpanRead, span, span_at, SymbolRead, symbol, symbol_at}
use Rattle.format.specs.Reader.{Reply, got, bad}
use Rattle.format.specs.Tree.{Raw, punct, ident, literal, subtree, is_subtree, is_raw_kind, bits_agree, need, ident_of, literal_of, closed101, form111, controlled, after_span, tree_at}
use Rattle.format.specs.Write.{join, span_bytes, symbol_bytes, short_base, literal_bytes, apart, near, fits000, bytes000, bytes101, subtree_bytes, tree_bytes}
use Rattle.format.specs.Loose.{Loose, is_loose, loose_read, loose_leaf, loose_shared, loose_both, loose_by, loose_after, loose_at}
use Rattle.format.proofs.Each.{and_right, true_false}
use Rattle.format.proofs.Holds.{Holds, holds_first, holds_rest, holds_at}
use Rattle.format.proofs.SpanBack.{Packable, span_back}
use Rattle.format.proofs.SubtreeForm.{subtree_form_lem}
use Rattle.format.proofs.TreeBack.{Writable, near_true, tree_back}
use Rattle.format.proofs.TreeBounds.{choice, Ended, tree_ended}
use Rattle.format.proofs.RootForm.{heavy_at, heavy_span, root_form}
use Rattle.format.proofs.LooseLaw.{span_tight}

-- the low three bits of a control byte
low_bits : (C : ℕ → Type 0) → C 0 → C 1 → C 2 → C 3 → C 4 → C 5 → C 6 → C 7 → (m : ℕ) → m < 8 → C m
low_bits C c₀ c₁ c₂ c₃ c₄ c₅ c₆ c₇ zero h = c₀
low_bits C c₀ c₁ c₂ c₃ c₄ c₅ c₆ c₇ (suc zero) h = c₁
low_bits C c₀ c₁ c₂ c₃ c₄ c₅ c₆ c₇ (suc (suc zero)) h = c₂
low_bits C c₀ c₁ c₂ c₃ c₄ c₅ c₆ c₇ (suc (suc (suc zero))) h = c₃
low_bits C c₀ c₁ c₂ c₃ c₄ c₅ c₆ c₇ (suc (suc (suc (suc zero)))) h = c₄
low_bits C c₀ c₁ c₂ c₃ c₄ c₅ c₆ c₇ (suc (suc (suc (suc (suc zero))))) h = c₅
low_bits C c₀ c₁ c₂ c₃ c₄ c₅ c₆ c₇ (suc (suc (suc (suc (suc (suc zero)))))) h = c₆
low_bits C c₀ c₁ c₂ c₃ c₄ c₅ c₆ c₇ (suc (suc (suc (suc (suc (suc (suc zero))))))) h = c₇
low_bits C c₀ c₁ c₂ c₃ c₄ c₅ c₆ c₇ (suc (suc (suc (suc (suc (suc (suc (suc m)))))))) h = absurd (omega arith)

module _ (b : List ℕ) where
  -- ---- the control byte tells a subtree

  abbrev sub_form : ℕ → Bool
  sub_form c = eqb (c % 8) 5 || ltb (c % 8) 3

  abbrev Sort : Bool → Reply Raw → Type 0
  Sort x (got t next kids) = is_subtree t ≡ x
  Sort x (bad r) = Unit {0}

  sort_need : (x : Bool) (m : ℕ) (r : Reply Raw) → Sort x r → Sort x (need b m r)
  sort_need x m r h = go (leb m (length b)) refl
    where
      go : (y : Bool) → leb m (length b) ≡ y → Sort x (need b m r)
      go true e = simp e h
      go false e = simp e tt

  sort_literal : (s : Span) (k c x : ℕ) (r : SymbolRead) → Sort false (literal_of s k c x r)
  sort_literal s k c x (symbol t i n) = refl
  sort_literal s k c x SymbolRead.short = tt

  sort_closed : (s : Span) (c : ℕ) (r : SpanRead) → Sort true (closed101 b s c r)
  sort_closed s c (span e t r) = sort_need true (r + 8) (got _ _ _) refl
  sort_closed s c SpanRead.short = tt

  sort_111 : (s : Span) (q c : ℕ) → Sort false (form111 b s q c)
  sort_111 s q c = go _ _ refl refl
    where
      go : (x y : Bool) → ltb 10 (c / 8) ≡ x → is_raw_kind (c / 8) ≡ y → Sort false (form111 b s q c)
      go true y e f = simp e tt
      go false true e f = simp (e, f) (sort_need false (q + 3) (literal_of s _ _ _ (symbol_at b (q + 3))) (sort_literal s _ _ _ (symbol_at b (q + 3))))
      go false false e f = simp (e, f) (sort_need false (q + 2) (literal_of s _ _ _ (symbol_at b (q + 2))) (sort_literal s _ _ _ (symbol_at b (q + 2))))

  sort_controlled : (s : Span) (q c : ℕ) → Sort (sub_form c) (controlled b s q c)
  unfolding controlled
  sort_controlled s q c =
      low_bits (λ m. c % 8 ≡ m → Sort (sub_form c) (controlled b s q c))
      (λ z. simp z (sort_need true (q + 3) _ (choice (Sort true) (bits_agree s c) (got _ _ _) (bad 2) refl tt)))
      (λ z. simp z (sort_need true (q + 3) (got _ _ _) refl))
      (λ z. simp z (sort_need true (q + 5) (got _ _ _) refl))
      (λ z. simp z (sort_literal s _ _ _ (symbol_at b (q + 1))))
      (λ z. simp z (sort_literal s _ _ _ (symbol_at b (q + 1))))
      (λ z. simp z (sort_closed s c (span_at b (q + 1))))
      (λ z. simp z (sort_need false (q + 5) (got _ _ _) refl))
      (λ z. simp z (sort_111 s q c))
      (c % 8) (omega arith) refl

  -- ---- a tree's report

  module _ (p : ℕ) where
    -- the first span's
    abbrev first : Bool
    first = loose_read p (span_at b p)

    cases_by : (C : Loose → Type 0) (x : Bool) (q c : ℕ) → C (loose_leaf x) → C (loose_shared x) → ((y : Bool) → C (loose_both x y)) → C (loose_by b x q c)
    unfolding loose_by
    cases_by C x q c l s t = go _ _ refl refl
      where
        go : (y z : Bool) → eqb (c % 8) 5 ≡ y → ltb (c % 8) 3 ≡ z → C (loose_by b x q c)
        go true z e f = simp e (t (loose_read (q + 1) (span_at b (q + 1))))
        go false true e f = simp (e, f) s
        go false false e f = simp (e, f) l

    cases_after : (C : Loose → Type 0) (r : SpanRead) → C (loose_leaf (loose_read p r)) → C (loose_shared (loose_read p r)) → ((y : Bool) → C (loose_both (loose_read p r) y)) → C (loose_after b p r)
    unfolding loose_after
    cases_after C (span e s q) l h t = go _ _ refl refl
      where
        go : (y z : Bool) → eqb (e % 2) 1 ≡ y → eqb (e / 2) 1 ≡ z → C (loose_after b p (span e s q))
        go true z i j = simp i l
        go false true i j = simp (i, j) l
        go false false i j = simp (i, j) (cases_by C (is_loose p s q) q (byte_at b q) l h t)
    cases_after C SpanRead.short l h t = l

    -- a report is one of three
    pub loose_cases : (C : Loose → Type 0) → C (loose_leaf first) → C (loose_shared first) → ((y : Bool) → C (loose_both first y)) → C (loose_at b p)
    unfolding loose_at
    loose_cases C = cases_after C (span_at b p)

    pub loose_opening : (loose_at b p).opening ≡ loose_read p (span_at b p)
    loose_opening = loose_cases (λ l. l.opening ≡ first) refl refl (λ y. refl)

    abbrev bit : Bool → ℕ
    bit x = if x then 1 else 0

    bit_most : (x : Bool) → bit x ≤ 1
    bit_most true = omega arith
    bit_most false = omega arith

    bit_zero : (x : Bool) → bit x ≡ 0 → x ≡ false
    bit_zero true e = absurd (omega arith)
    bit_zero false e = refl

    pub loose_most : (loose_at b p).spans ≤ 2
    loose_most =
        let i = bit_most first in
        loose_cases (λ l. l.spans ≤ 2) (omega arith) (omega arith) (λ y. let j = bit_most y in omega arith)

    -- the count is 0 only if neither report says loose
    pub loose_no : (loose_at b p).spans ≡ 0 → ((loose_at b p).opening ≡ false) × ((loose_at b p).closing ≡ false)
    loose_no =
        loose_cases (λ l. l.spans ≡ 0 → (l.opening ≡ false) × (l.closing ≡ false))
        (λ e. (bit_zero first e, refl))
        (λ e. (bit_zero first e, bit_zero first e))
        (λ y e. (bit_zero first (omega arith), bit_zero y (omega arith)))

    -- ---- by the sort of the tree that is read there

    -- x is the first span's report, which ends at q; whether it is a subtree
    abbrev sorted : Bool → ℕ → Bool → Loose
    sorted x q true = if eqb (byte_at b q % 8) 5 then loose_both x (loose_read (q + 1) (span_at b (q + 1))) else loose_shared x
    sorted x q false = loose_leaf x

    sorted_by : (x : Bool) (q : ℕ) → loose_by b x q (byte_at b q) ≡ sorted x q (sub_form (byte_at b q))
    unfolding loose_by
    sorted_by x q = go _ _ refl refl
      where
        go : (y z : Bool) → eqb (byte_at b q % 8) 5 ≡ y → ltb (byte_at b q % 8) 3 ≡ z → loose_by b x q (byte_at b q) ≡ sorted x q (sub_form (byte_at b q))
        go true z e f = simp e
        go false true e f = simp (e, f)
        go false false e f = simp (e, f)

    abbrev Told : SpanRead → Reply Raw → Type 0
    Told (span e s q) (got t next kids) = loose_after b p (span e s q) ≡ sorted (is_loose p s q) q (is_subtree t)
    Told (span e s q) (bad r) = Unit {0}
    Told SpanRead.short r = Unit {0}

    told : (r : SpanRead) → Told r (after_span b r)
    unfolding after_span loose_after
    told (span e s q) = go _ _ _ refl refl refl
      where
        named : (r : SymbolRead) → loose_after b p (span e s q) ≡ loose_leaf (is_loose p s q) → Told (span e s q) (ident_of s r)
        named (symbol t i n) d = d
        named SymbolRead.short d = tt

        formed : (r : Reply Raw) → loose_after b p (span e s q) ≡ loose_by b (is_loose p s q) q (byte_at b q) → Sort (sub_form (byte_at b q)) r → Told (span e s q) r
        formed (got t next kids) d h = d ∙ sorted_by (is_loose p s q) q ∙ ap (sorted (is_loose p s q) q) (sym h)
        formed (bad r) d h = tt

        go : (x y z : Bool) → leb (q + 1) (length b) ≡ x → eqb (e % 2) 1 ≡ y → eqb (e / 2) 1 ≡ z → Told (span e s q) (after_span b (span e s q))
        go false y z g i j = simp g tt
        go true true z g i j = simp (g, i)
        go true false true g i j = simp (g, i, j) (named (symbol_at b q) (simp (i, j)))
        go true false false g i j = simp (g, i, j) (formed (controlled b s q (byte_at b q)) (simp (i, j)) (sort_controlled s q (byte_at b q)))
    told SpanRead.short = tt

    module _ (t : Raw) (next kids : ℕ) (stands : tree_at b p ≡ got t next kids) where
      at_span : (r : SpanRead) → span_at b p ≡ r → Told r (got t next kids)
      unfolding tree_at
      at_span r d = subst (Told r) (ap (after_span b) (sym d) ∙ stands) (told r)

      -- a leaf's one report; its close is not loose
      pub leaf_loose : is_subtree t ≡ false → loose_at b p ≡ loose_leaf (loose_read p (span_at b p))
      unfolding loose_at loose_after
      leaf_loose f = go (span_at b p) refl
        where
          go : (r : SpanRead) → span_at b p ≡ r → loose_after b p r ≡ loose_leaf (loose_read p r)
          go (span e s q) d = at_span (span e s q) d ∙ ap (sorted (is_loose p s q) q) f
          go SpanRead.short d = refl

      -- a subtree's two: in 101 the close span's own, else the opening one's
      pub sub_loose : is_subtree t ≡ true → (e : ℕ) (s : Span) (q : ℕ) → span_at b p ≡ span e s q
          → loose_at b p ≡ (if eqb (byte_at b q % 8) 5 then loose_both (is_loose p s q) (loose_read (q + 1) (span_at b (q + 1))) else loose_shared (is_loose p s q))
      unfolding loose_at
      sub_loose f e s q d = ap (loose_after b p) d ∙ at_span (span e s q) d ∙ ap (sorted (is_loose p s q) q) f

    -- ---- a tree that the writer made

    module _ (s : Span) (ks : Packable s) where
      first_tight : (x : ℕ) (rest : List ℕ) → x < 4 → Holds b p (span_bytes x s ++ rest) → loose_read p (span_at b p) ≡ false
      first_tight x rest l h = span_tight b p x s l ks (holds_first b (span_bytes x s) rest p h)

      -- a span and control byte c
      by_control : (c : ℕ) (rest : List ℕ) → Holds b p (span_bytes 0 s ++ (c ∷ rest)) → loose_at b p ≡ loose_by b false (p + length (span_bytes 0 s)) c
      unfolding loose_at loose_after
      by_control c rest h =
          let q : ℕ = p + length (span_bytes 0 s) in
          let d = span_back b p 0 s (omega arith) ks (holds_first b (span_bytes 0 s) (c ∷ rest) p h) in
          let f : is_loose p s q ≡ false = ap (loose_read p) (sym d) ∙ first_tight 0 (c ∷ rest) (omega arith) h in
          let v : byte_at b q ≡ c = holds_at b (c ∷ rest) q (omega arith) (holds_rest b (span_bytes 0 s) (c ∷ rest) p h) in
          rw d (simp (f, v))

      -- 000, 001 and 010
      shared_tight : (c f : ℕ) (rest : List ℕ) → c % 8 ≡ f → f < 3 → Holds b p (span_bytes 0 s ++ (c ∷ rest)) → loose_at b p ≡ loose_leaf false
      unfolding loose_by
      shared_tight c f rest e l h =
          let n = ne_eqb f 5 (omega arith) in
          let m = lt-ltb f 3 l in
          by_control c rest h ∙ simp (e, n, m)

    module _ (s t : Span) (n d kids : ℕ) (ks : Packable s) (kt : Packable t) where
      tight_101 : Holds b p (bytes101 s t n d kids) → loose_at b p ≡ loose_leaf false
      unfolding loose_by
      tight_101 h =
          let xs : List ℕ = span_bytes 0 s in
          let ys : List ℕ = span_bytes 0 t in
          let zs : List ℕ = join (word_bytes n ∷ word_bytes kids ∷ []) in
          let c : ℕ = 5 + 8 * d in
          let e : (5 + 8 * d) % 8 ≡ 5 = omega arith in
          let g = holds_rest b (c ∷ []) (ys ++ zs) (p + length xs) (holds_rest b xs (c ∷ (ys ++ zs)) p h) in
          let f = span_tight b (p + length xs + 1) 0 t (omega arith) kt (holds_first b ys zs (p + length xs + 1) g) in
          by_control s ks c (ys ++ zs) h ∙ simp (e, f)

      -- the stored length is the distance
      tight_000 : fits000 s t n kids ≡ true → Holds b p (bytes000 s t n d kids) → loose_at b p ≡ loose_leaf false
      tight_000 e h =
          let a = near_true s t 2047 (and_right (eqb s.index t.index && (leb n 255 && leb kids 255) && eqb s.len 1 && eqb t.len 1) (near s t 2047) e) in
          let o = a.0 in
          let i = ks.index in
          let r = kt.range in
          let u : Span = record { index = s.index; start = s.start; len = apart s t } in
          shared_tight u (record { index = i; range = omega arith }) (8 * d + 32 * (apart s t / 256)) 0 (n ∷ kids ∷ []) (omega arith) (omega arith) h

      sub_tight : Holds b p (subtree_bytes s t n d kids) → loose_at b p ≡ loose_leaf false
      sub_tight =
          subtree_form_lem (λ xs. Holds b p xs → loose_at b p ≡ loose_leaf false) s t n d kids tight_000
          (λ e. shared_tight s ks (1 + 8 * d + 32 * apart s t) 1 (n ∷ kids ∷ []) (omega arith) (omega arith))
          (λ e. shared_tight s ks (2 + 8 * d + 32 * (t.index % 8)) 2 (apart s t ∷ n ∷ half_bytes (16 * kids + t.index / 8)) (omega arith) (omega arith))
          tight_101

    -- the first span of a leaf
    leaf_first : (m : ℕ) (t : Raw) (kids : ℕ) → is_subtree t ≡ false → Writable t → Holds b p (tree_bytes m t kids) → loose_read p (span_at b p) ≡ false
    unfolding tree_bytes literal_bytes
    leaf_first m (punct s c x) kids f w h = go (ltb c 128) refl
      where
        go : (y : Bool) → ltb c 128 ≡ y → loose_read p (span_at b p) ≡ false
        go true e = let l = w.1 in first_tight s w.0 (1 + 2 * (x / 2)) _ (omega arith) (simp e at h)
        go false e = first_tight s w.0 0 _ (omega arith) (simp e at h)
    leaf_first m (ident s i r) kids f w h = first_tight s w.0 2 (symbol_bytes r i) (omega arith) h
    leaf_first m (literal s i k r x) kids f w h = go _ _ refl refl
      where
        go : (y z : Bool) → (ltb 0 (short_base k r) && leb x 15) ≡ y → is_raw_kind k ≡ z → loose_read p (span_at b p) ≡ false
        go true z e g = first_tight s w.0 0 _ (omega arith) (simp e at h)
        go false true e g = first_tight s w.0 0 _ (omega arith) (simp (e, g) at h)
        go false false e g = first_tight s w.0 0 _ (omega arith) (simp (e, g) at h)
    leaf_first m (subtree s t n d) kids f w h = true_false true refl f

    leaf_tight : (m : ℕ) (t : Raw) (kids : ℕ) → is_subtree t ≡ false → Writable t → Holds b p (tree_bytes m t kids) → loose_at b p ≡ loose_leaf false
    leaf_tight m t kids f w h = leaf_loose t _ _ (tree_back b p m t kids w h) f ∙ ap loose_leaf (leaf_first m t kids f w h)

    -- WRITTEN: below the root nothing is loose; a subtree's report is then a leaf's
    pub written_tight : (m : ℕ) (t : Raw) (kids : ℕ) → 0 < m → Writable t → Holds b p (tree_bytes m t kids) → loose_at b p ≡ loose_leaf false
    unfolding tree_bytes
    written_tight m (punct s c x) kids l w h = leaf_tight m (punct s c x) kids refl w h
    written_tight m (ident s i r) kids l w h = leaf_tight m (ident s i r) kids refl w h
    written_tight m (literal s i k r x) kids l w h = leaf_tight m (literal s i k r x) kids refl w h
    written_tight m (subtree s t n d) kids l w h =
        let e = ne_eqb m 0 (omega arith) in
        sub_tight s t n d kids w.0 w.1 (simp e at h)

    -- ---- the root's form: both spans are read from twelve bytes of their own
    pub root_loose : (t : Raw) (kids : ℕ) → tree_at b p ≡ got t (p + 33) kids
        → loose_at b p ≡ loose_both (is_loose p (heavy_at b p) (p + 12)) (is_loose (p + 13) (heavy_at b (p + 13)) (p + 25))
    unfolding loose_at loose_after loose_by
    root_loose t kids e =
        let F = root_form b p t kids e in
        let l : p + 33 ≤ length b = (subst (Ended b p) e (tree_ended b p)).1 in
        let m = le-leb (p + 12) (length b) (omega arith) in
        let n = le-leb (p + 25) (length b) (omega arith) in
        let o = F.plain in
        let c = F.control in
        let i : p + 12 + 1 ≡ p + 13 = omega arith in
        let j : p + 13 + 12 ≡ p + 25 = omega arith in
        simp (heavy_span b p F.first, m, o, c, i, heavy_span b (p + 13) F.second, j, n)
