-- A tree has eight bytes for each of its loose spans.
use Prim.Native.Nat.{ℕ, ◌+◌, ◌*◌, ◌/◌, ◌%◌, ◌≤◌}
use mathlib.Core.Bool.{Bool, true, false, ◌||◌}
use mathlib.Core.Path.{◌≡◌, refl}
use mathlib.Core.List.{List}
use native.Mathlib.Omega.{arith}
use borrow.Author.Tests.{eqb-true}
use lib.Dec.{leb, ltb, eqb}
use lib.ListN.{length}
use Rattle.std.specs.Prelude.{if◌then◌else◌}
use Rattle.format.specs.Word.{byte_at, word_at}
use Rattle.format.specs.Span.{Span, SpanRead, span, span_at, span₁, span₂, span₃, SymbolRead, symbol, symbol_at}
use Rattle.format.specs.Reader.{Reply, got, bad}
use Rattle.format.specs.Tree.{Raw, punct, bits_agree, need, ident_of, literal_of, closed101, form111, controlled, after_span, tree_at}
use Rattle.format.specs.Loose.{is_loose, loose_read, loose_by, loose_after, loose_at}
use Rattle.format.proofs.TreeBounds.{choice, Symboled, symbol_within}
use Rattle.format.proofs.LooseLaw.{loose_4}

held : (p q : ℕ) (x : Bool) → p + 8 ≤ q → p + 8 * (if x then 1 else 0) ≤ q
held p q true h = omega arith
held p q false h = omega arith

longer : (p q : ℕ) (s : Span) → p + 8 ≤ q → p + 8 * (if is_loose p s q then 1 else 0) ≤ q
longer p q s h = held p q (is_loose p s q) h

module _ (b : List ℕ) where
  -- ---- a span of four bytes is not loose

  abbrev Held : ℕ → SpanRead → Type 0
  Held p (span e s q) = p + 8 * (if is_loose p s q then 1 else 0) ≤ q
  Held p SpanRead.short = Unit {0}

  span_held : (p : ℕ) → Held p (span_at b p)
  unfolding span_at
  span_held p = go _ _ _ _ _ refl refl refl refl refl
    where
      go : (x₁ x₂ x₃ x₄ x₅ : Bool) → leb (p + 4) (length b) ≡ x₁ → eqb (word_at b p / 16384 % 2) 0 ≡ x₂ → leb (p + 8) (length b) ≡ x₃ → eqb (word_at b (p + 4) % 2) 0 ≡ x₄
          → leb (p + 12) (length b) ≡ x₅ → Held p (span_at b p)
      go false x₂ x₃ x₄ x₅ e₁ e₂ e₃ e₄ e₅ = simp e₁ tt
      go true true x₃ x₄ x₅ e₁ e₂ e₃ e₄ e₅ = simp (e₁, e₂, loose_4 (span₁ (word_at b p)) p) (omega arith)
      go true false false x₄ x₅ e₁ e₂ e₃ e₄ e₅ = simp (e₁, e₂, e₃) tt
      go true false true true x₅ e₁ e₂ e₃ e₄ e₅ = simp (e₁, e₂, e₃, e₄) (longer p (p + 8) (span₂ (word_at b p) (word_at b (p + 4))) (omega arith))
      go true false true false false e₁ e₂ e₃ e₄ e₅ = simp (e₁, e₂, e₃, e₄, e₅) tt
      go true false true false true e₁ e₂ e₃ e₄ e₅ = simp (e₁, e₂, e₃, e₄, e₅) (longer p (p + 12) (span₃ (word_at b p) (word_at b (p + 4)) (word_at b (p + 8))) (omega arith))

  -- ---- a tree ends behind its first span, which ends at q

  abbrev Past : ℕ → Reply Raw → Type 0
  Past q (got t next kids) = q ≤ next
  Past q (bad r) = Unit {0}

  need_past : (q m : ℕ) (r : Reply Raw) → Past q r → Past q (need b m r)
  need_past q m r h = go (leb m (length b)) refl
    where
      go : (x : Bool) → leb m (length b) ≡ x → Past q (need b m r)
      go true e = simp e h
      go false e = simp e tt

  ident_past : (q : ℕ) (s : Span) (r : SymbolRead) → Symboled b q r → Past q (ident_of s r)
  ident_past q s (symbol t i n) x = let l = x.0 in omega arith
  ident_past q s SymbolRead.short x = tt

  literal_past : (q m : ℕ) (s : Span) (k c x : ℕ) (r : SymbolRead) → q ≤ m → Symboled b m r → Past q (literal_of s k c x r)
  literal_past q m s k c x (symbol t i n) h y = let l = y.0 in omega arith
  literal_past q m s k c x SymbolRead.short h y = tt

  form111_past : (q : ℕ) (s : Span) (c : ℕ) → Past q (form111 b s q c)
  form111_past q s c = go _ _ refl refl
    where
      go : (x y : Bool) → ltb 10 (c / 8) ≡ x → (eqb (c / 8) 5 || eqb (c / 8) 7 || eqb (c / 8) 9) ≡ y → Past q (form111 b s q c)
      go true y e f = simp e tt
      go false true e f = simp (e, f) (need_past q (q + 3) (literal_of s _ _ _ (symbol_at b (q + 3))) (literal_past q (q + 3) s _ _ _ (symbol_at b (q + 3)) (omega arith) (symbol_within b (q + 3))))
      go false false e f = simp (e, f) (need_past q (q + 2) (literal_of s _ _ _ (symbol_at b (q + 2))) (literal_past q (q + 2) s _ _ _ (symbol_at b (q + 2)) (omega arith) (symbol_within b (q + 2))))

  -- every form but 101
  controlled_past : (q : ℕ) (s : Span) (c : ℕ) → eqb (c % 8) 5 ≡ false → Past q (controlled b s q c)
  unfolding controlled
  controlled_past q s c e₅ = go _ _ _ _ _ refl refl refl refl refl
    where
      go : (x₀ x₁ x₂ x₆ x₇ : Bool) → eqb (c % 8) 0 ≡ x₀ → eqb (c % 8) 1 ≡ x₁ → eqb (c % 8) 2 ≡ x₂ → eqb (c % 8) 6 ≡ x₆ → eqb (c % 8) 7 ≡ x₇ → Past q (controlled b s q c)
      go true x₁ x₂ x₆ x₇ e₀ e₁ e₂ e₆ e₇ = simp e₀ (need_past q (q + 3) _ (choice (Past q) (bits_agree s c) (got _ _ _) (bad 2) (omega arith) tt))
      go false true x₂ x₆ x₇ e₀ e₁ e₂ e₆ e₇ = simp (e₀, e₁) (need_past q (q + 3) (got _ _ _) (omega arith))
      go false false true x₆ x₇ e₀ e₁ e₂ e₆ e₇ = simp (e₀, e₁, e₂) (need_past q (q + 5) (got _ _ _) (omega arith))
      go false false false true x₇ e₀ e₁ e₂ e₆ e₇ = simp (e₀, e₁, e₂, e₅, e₆) (need_past q (q + 5) (got _ _ _) (omega arith))
      go false false false false true e₀ e₁ e₂ e₆ e₇ = simp (e₀, e₁, e₂, e₅, e₆, e₇) (form111_past q s c)
      go false false false false false e₀ e₁ e₂ e₆ e₇ = simp (e₀, e₁, e₂, e₅, e₆, e₇) (literal_past q (q + 1) s _ _ _ (symbol_at b (q + 1)) (omega arith) (symbol_within b (q + 1)))

  -- ---- a tree

  abbrev pub Eight : ℕ → ℕ → Reply Raw → Type 0
  Eight p n (got t next kids) = p + 8 * n ≤ next
  Eight p n (bad r) = Unit {0}

  past_eight : (p q n : ℕ) (r : Reply Raw) → p + 8 * n ≤ q → Past q r → Eight p n r
  past_eight p q n (got t next kids) h l = omega arith
  past_eight p q n (bad r) h l = tt

  need_eight : (p n m : ℕ) (r : Reply Raw) → Eight p n r → Eight p n (need b m r)
  need_eight p n m r h = go (leb m (length b)) refl
    where
      go : (x : Bool) → leb m (length b) ≡ x → Eight p n (need b m r)
      go true e = simp e h
      go false e = simp e tt

  closed_eight : (p q m c : ℕ) (s : Span) (r : SpanRead) → p + 8 * m ≤ q → Held (q + 1) r → Eight p (m + (if loose_read (q + 1) r then 1 else 0)) (closed101 b s c r)
  closed_eight p q m c s (span e t r) h l = need_eight p _ (r + 8) (got _ _ _) (omega arith)
  closed_eight p q m c s SpanRead.short h l = tt

  form101_eight : (p q m c : ℕ) (s : Span) → p + 8 * m ≤ q → c % 8 ≡ 5 → Eight p (m + (if loose_read (q + 1) (span_at b (q + 1)) then 1 else 0)) (controlled b s q c)
  unfolding controlled
  form101_eight p q m c s h e = simp e (closed_eight p q m c s (span_at b (q + 1)) h (span_held (q + 1)))

  controlled_eight : (p q c : ℕ) (s : Span) (x : Bool) → p + 8 * (if x then 1 else 0) ≤ q → Eight p (loose_by b x q c).spans (controlled b s q c)
  unfolding loose_by
  controlled_eight p q c s x h = go _ _ refl refl
    where
      go : (y z : Bool) → eqb (c % 8) 5 ≡ y → ltb (c % 8) 3 ≡ z → Eight p (loose_by b x q c).spans (controlled b s q c)
      go true z e f = simp e (form101_eight p q (if x then 1 else 0) c s h (eqb-true (c % 8) 5 e))
      go false true e f = simp (e, f) (past_eight p q (if x then 1 else 0) (controlled b s q c) h (controlled_past q s c e))
      go false false e f = simp (e, f) (past_eight p q (if x then 1 else 0) (controlled b s q c) h (controlled_past q s c e))

  after_eight : (p : ℕ) (r : SpanRead) → Held p r → Eight p (loose_after b p r).spans (after_span b r)
  unfolding after_span loose_after
  after_eight p (span e s q) h = need_eight p _ (q + 1) _ (go _ _ refl refl)
    where
      go : (y z : Bool) → eqb (e % 2) 1 ≡ y → eqb (e / 2) 1 ≡ z
          → Eight p (loose_after b p (span e s q)).spans
          (if eqb (e % 2) 1 then got (punct s (byte_at b q / 2) (byte_at b q % 2 + 2 * (e / 2))) (q + 1) 0 else
          (if eqb (e / 2) 1 then ident_of s (symbol_at b q) else controlled b s q (byte_at b q)))
      go true z f g = simp f (omega arith)
      go false true f g = simp (f, g) (past_eight p q (if is_loose p s q then 1 else 0) (ident_of s (symbol_at b q)) h (ident_past q s (symbol_at b q) (symbol_within b q)))
      go false false f g = simp (f, g) (controlled_eight p q (byte_at b q) s (is_loose p s q) h)
  after_eight p SpanRead.short h = tt

  pub tree_eight : (p : ℕ) → Eight p (loose_at b p).spans (tree_at b p)
  unfolding tree_at loose_at
  tree_eight p = after_eight p (span_at b p) (span_held p)
