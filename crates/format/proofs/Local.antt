-- Reading is local: a span, a symbol and a tree depend on the length of the buffer and on the 12, 4 and 33 bytes from their place on.
use Prim.Native.Nat.{ℕ, ◌+◌, ◌/◌, ◌%◌, ◌≤◌, ◌<◌}
use mathlib.Core.Bool.{Bool, true, false}
use mathlib.Core.Path.{◌≡◌, refl, sym, ap, ◌∙◌}
use mathlib.Core.List.{List}
use native.Mathlib.Omega.{arith}
use borrow.Author.Tests.{le-leb}
use lib.Dec.{leb, eqb}
use lib.ListN.{length}
use Rattle.format.specs.Word.{byte_at, half_at, word_at}
use Rattle.format.specs.Span.{Span, SpanRead, span, span_at, SymbolRead, symbol, symbol_at}
use Rattle.format.specs.Tree.{controlled, after_span, tree_at, closed101}
use Rattle.format.proofs.TreeBounds.{Spanned, span_within}
use Rattle.format.proofs.RootForm.{SpanSize, span_size_lem}

-- two buffers of one length with the same bytes from p to before q
pub record Agree (b c : List ℕ) (p q : ℕ) : Type 0 where
  pub size : length b ≡ length c
  pub same : (i : ℕ) → p ≤ i → i < q → byte_at b i ≡ byte_at c i

module _ (b c : List ℕ) (p q : ℕ) (a : Agree b c p q) where
  pub half_same : (i : ℕ) → p ≤ i → i + 2 ≤ q → half_at b i ≡ half_at c i
  unfolding half_at
  half_same i h l =
      let x = a.same i h (omega arith) in
      let y = a.same (i + 1) (omega arith) (omega arith) in
      simp (x, y)

  pub word_same : (i : ℕ) → p ≤ i → i + 4 ≤ q → word_at b i ≡ word_at c i
  unfolding word_at
  word_same i h l =
      let x = a.same i h (omega arith) in
      let y = a.same (i + 1) (omega arith) (omega arith) in
      let z = a.same (i + 2) (omega arith) (omega arith) in
      let w = a.same (i + 3) (omega arith) (omega arith) in
      simp (x, y, z, w)

  -- ---- a span and a symbol

  pub span_same : (i : ℕ) → p ≤ i → i + 12 ≤ q → span_at b i ≡ span_at c i
  unfolding span_at
  span_same i h l =
      let n = a.size in
      let x = word_same i h (omega arith) in
      let y = word_same (i + 4) (omega arith) (omega arith) in
      let z = word_same (i + 8) (omega arith) (omega arith) in
      simp (n, x, y, z)

  pub symbol_same : (i : ℕ) → p ≤ i → i + 4 ≤ q → symbol_at b i ≡ symbol_at c i
  unfolding symbol_at
  symbol_same i h l =
      let n = a.size in
      let x = a.same i h (omega arith) in
      let y = a.same (i + 1) (omega arith) (omega arith) in
      let z = half_same (i + 2) (omega arith) (omega arith) in
      simp (n, x, y, z)

  -- ---- a tree

  closed_same : (s : Span) (d i : ℕ) (r : SpanRead) → p ≤ i → i + 20 ≤ q → Spanned b i r → SpanSize b i r → closed101 b s d r ≡ closed101 c s d r
  closed_same s d i (span e t r) h l x y =
      let n = a.size in
      let u = x.0 in
      let v = y.0 in
      let f = word_same r (omega arith) (omega arith) in
      let g = word_same (r + 4) (omega arith) (omega arith) in
      simp (n, f, g)
  closed_same s d i SpanRead.short h l x y = refl

  -- … behind a span that ends at i, with the control byte d
  controlled_same : (s : Span) (i d : ℕ) → p ≤ i → i + 21 ≤ q → controlled b s i d ≡ controlled c s i d
  unfolding controlled
  controlled_same s i d h l =
      let n = a.size in
      let x = a.same (i + 1) (omega arith) (omega arith) in
      let y = a.same (i + 2) (omega arith) (omega arith) in
      let z = half_same (i + 3) (omega arith) (omega arith) in
      let w = word_same (i + 1) (omega arith) (omega arith) in
      let u = symbol_same (i + 1) (omega arith) (omega arith) in
      let v = symbol_same (i + 2) (omega arith) (omega arith) in
      let t = symbol_same (i + 3) (omega arith) (omega arith) in
      let g = span_same (i + 1) (omega arith) (omega arith) in
      let f = closed_same s d (i + 1) (span_at b (i + 1)) (omega arith) (omega arith) (span_within b (i + 1)) (span_size_lem b (i + 1)) ∙ ap (closed101 c s d) g in
      simp (f, n, x, y, z, w, u, v, t)

  after_same : (i : ℕ) (r : SpanRead) → p ≤ i → i + 33 ≤ q → Spanned b i r → SpanSize b i r → after_span b r ≡ after_span c r
  unfolding after_span
  after_same i (span e s r) h l x y =
      let n = a.size in
      let u = x.0 in
      let v = y.0 in
      let z = a.same r (omega arith) (omega arith) in
      let w = symbol_same r (omega arith) (omega arith) in
      let f = controlled_same s r (byte_at c r) (omega arith) (omega arith) in
      simp (n, z, w, f)
  after_same i SpanRead.short h l x y = refl

  pub tree_same : (i : ℕ) → p ≤ i → i + 33 ≤ q → tree_at b i ≡ tree_at c i
  unfolding tree_at
  tree_same i h l = after_same i (span_at b i) h l (span_within b i) (span_size_lem b i) ∙ ap (λ r. after_span c r) (span_same i h (omega arith))

-- bytes before a place are never looked at
pub tree_from_lem : (b c : List ℕ) (p : ℕ) → length b ≡ length c → ((i : ℕ) → p ≤ i → byte_at b i ≡ byte_at c i) → tree_at b p ≡ tree_at c p
tree_from_lem b c p e same = tree_same b c p (p + 33) (record { size = e; same = λ i h l. same i h }) p (omega arith) (omega arith)

-- ---- buffers of any length: a span or symbol that is read from some bytes is read wherever these stand at the place

module _ (b c : List ℕ) (p q : ℕ) (room : q ≤ length c) (same : (i : ℕ) → p ≤ i → i < q → byte_at b i ≡ byte_at c i) where
  pub word_kept : (i : ℕ) → p ≤ i → i + 4 ≤ q → word_at c i ≡ word_at b i
  unfolding word_at
  word_kept i h l =
      let x = same i h (omega arith) in
      let y = same (i + 1) (omega arith) (omega arith) in
      let z = same (i + 2) (omega arith) (omega arith) in
      let w = same (i + 3) (omega arith) (omega arith) in
      simp (x, y, z, w)

  cut_span : {A : Type 0} (x : ℕ) (s : Span) → SpanRead.short ≡ span x s q → A
  cut_span x s e = let z : ◌≡◌ {A = ℕ} 0 1 = cc in absurd (omega arith)

  span_ends : (x y : ℕ) (s u : Span) (r : ℕ) → span x s r ≡ span y u q → r ≡ q
  span_ends x y s u r e = cc

  pub span_kept : (x : ℕ) (s : Span) → span_at b p ≡ span x s q → span_at c p ≡ span x s q
  unfolding span_at
  span_kept x s e = go _ _ _ _ _ refl refl refl refl refl
    where
      go : (x₁ x₂ x₃ x₄ x₅ : Bool) → leb (p + 4) (length b) ≡ x₁ → eqb (word_at b p / 16384 % 2) 0 ≡ x₂ → leb (p + 8) (length b) ≡ x₃ → eqb (word_at b (p + 4) % 2) 0 ≡ x₄
          → leb (p + 12) (length b) ≡ x₅ → span_at c p ≡ span x s q
      go false x₂ x₃ x₄ x₅ e₁ e₂ e₃ e₄ e₅ = cut_span x s (simp e₁ at e)
      go true true x₃ x₄ x₅ e₁ e₂ e₃ e₄ e₅ =
          let e' : span _ _ (p + 4) ≡ span x s q = simp (e₁, e₂) at e in
          let i = span_ends _ _ _ _ _ e' in
          let w = word_kept p (omega arith) (omega arith) in
          let t = le-leb (p + 4) (length c) (omega arith) in
          simp (w, t, e₂) e'
      go true false false x₄ x₅ e₁ e₂ e₃ e₄ e₅ = cut_span x s (simp (e₁, e₂, e₃) at e)
      go true false true true x₅ e₁ e₂ e₃ e₄ e₅ =
          let e' : span _ _ (p + 8) ≡ span x s q = simp (e₁, e₂, e₃, e₄) at e in
          let i = span_ends _ _ _ _ _ e' in
          let w = word_kept p (omega arith) (omega arith) in
          let v = word_kept (p + 4) (omega arith) (omega arith) in
          let t = le-leb (p + 4) (length c) (omega arith) in
          let u = le-leb (p + 8) (length c) (omega arith) in
          simp (w, v, t, u, e₂, e₄) e'
      go true false true false false e₁ e₂ e₃ e₄ e₅ = cut_span x s (simp (e₁, e₂, e₃, e₄, e₅) at e)
      go true false true false true e₁ e₂ e₃ e₄ e₅ =
          let e' : span _ _ (p + 12) ≡ span x s q = simp (e₁, e₂, e₃, e₄, e₅) at e in
          let i = span_ends _ _ _ _ _ e' in
          let w = word_kept p (omega arith) (omega arith) in
          let v = word_kept (p + 4) (omega arith) (omega arith) in
          let z = word_kept (p + 8) (omega arith) (omega arith) in
          let t = le-leb (p + 4) (length c) (omega arith) in
          let u = le-leb (p + 8) (length c) (omega arith) in
          let y = le-leb (p + 12) (length c) (omega arith) in
          simp (w, v, z, t, u, y, e₂, e₄) e'

  cut_symbol : {A : Type 0} (x s : ℕ) → SymbolRead.short ≡ symbol x s q → A
  cut_symbol x s e = let z : ◌≡◌ {A = ℕ} 0 1 = cc in absurd (omega arith)

  symbol_ends : (x y s u r : ℕ) → symbol x s r ≡ symbol y u q → r ≡ q
  symbol_ends x y s u r e = cc

  pub symbol_kept : (x s : ℕ) → symbol_at b p ≡ symbol x s q → symbol_at c p ≡ symbol x s q
  unfolding symbol_at half_at
  symbol_kept x s e = go _ _ _ _ _ refl refl refl refl refl
    where
      go : (x₁ x₂ x₃ x₄ x₅ : Bool) → leb (p + 1) (length b) ≡ x₁ → eqb (byte_at b p / 2 % 2) 0 ≡ x₂ → leb (p + 2) (length b) ≡ x₃ → eqb (byte_at b (p + 1) % 2) 0 ≡ x₄
          → leb (p + 4) (length b) ≡ x₅ → symbol_at c p ≡ symbol x s q
      go false x₂ x₃ x₄ x₅ e₁ e₂ e₃ e₄ e₅ = cut_symbol x s (simp e₁ at e)
      go true true x₃ x₄ x₅ e₁ e₂ e₃ e₄ e₅ =
          let e' : symbol _ _ (p + 1) ≡ symbol x s q = simp (e₁, e₂) at e in
          let i = symbol_ends _ _ _ _ _ e' in
          let w = sym (same p (omega arith) (omega arith)) in
          let t = le-leb (p + 1) (length c) (omega arith) in
          simp (w, t, e₂) e'
      go true false false x₄ x₅ e₁ e₂ e₃ e₄ e₅ = cut_symbol x s (simp (e₁, e₂, e₃) at e)
      go true false true true x₅ e₁ e₂ e₃ e₄ e₅ =
          let e' : symbol _ _ (p + 2) ≡ symbol x s q = simp (e₁, e₂, e₃, e₄) at e in
          let i = symbol_ends _ _ _ _ _ e' in
          let w = sym (same p (omega arith) (omega arith)) in
          let v = sym (same (p + 1) (omega arith) (omega arith)) in
          let t = le-leb (p + 1) (length c) (omega arith) in
          let u = le-leb (p + 2) (length c) (omega arith) in
          simp (w, v, t, u, e₂, e₄) e'
      go true false true false false e₁ e₂ e₃ e₄ e₅ = cut_symbol x s (simp (e₁, e₂, e₃, e₄, e₅) at e)
      go true false true false true e₁ e₂ e₃ e₄ e₅ =
          let e' : symbol _ _ (p + 4) ≡ symbol x s q = simp (e₁, e₂, e₃, e₄, e₅) at e in
          let i = symbol_ends _ _ _ _ _ e' in
          let w = sym (same p (omega arith) (omega arith)) in
          let v = sym (same (p + 1) (omega arith) (omega arith)) in
          let y = sym (same (p + 2) (omega arith) (omega arith)) in
          let z = sym (same (p + 2 + 1) (omega arith) (omega arith)) in
          let t = le-leb (p + 1) (length c) (omega arith) in
          let u = le-leb (p + 2) (length c) (omega arith) in
          let a = le-leb (p + 4) (length c) (omega arith) in
          simp (w, v, y, z, t, u, a, e₂, e₄) e'
