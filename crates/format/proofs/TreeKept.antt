-- A tree that is read from some bytes is read wherever these stand at its place, in a buffer of any length.
use Prim.Native.Nat.{ℕ, ◌+◌, ◌*◌, ◌/◌, ◌%◌, ◌≤◌, ◌<◌}
use mathlib.Core.Bool.{Bool, true, false, ◌||◌}
use mathlib.Core.Path.{◌≡◌, refl, sym, ap, ◌∙◌, subst}
use mathlib.Core.List.{List}
use native.Mathlib.Omega.{arith}
use borrow.Author.Tests.{le-leb}
use lib.Dec.{leb, eqb, ltb}
use lib.ListN.{length}
use Rattle.std.specs.Prelude.{if◌then◌else◌}
use Rattle.format.specs.Word.{byte_at, half_at}
use Rattle.format.specs.Span.{Span, SpanRead, span, span_at, SymbolRead, symbol, symbol_at}
use Rattle.format.specs.Reader.{Reply, got, bad}
use Rattle.format.specs.Tree.{Raw, punct, bits_agree, need, ident_of, literal_of, closed101, form111, controlled, after_span, tree_at}
use Rattle.format.proofs.TreeBounds.{Spanned, span_within, Symboled, symbol_within}
use Rattle.format.proofs.Local.{word_kept, span_kept, symbol_kept}

module _ (b c : List ℕ) (p q : ℕ) (room : q ≤ length c) (same : (i : ℕ) → p ≤ i → i < q → byte_at b i ≡ byte_at c i) where
  -- x, read of b, ends at o or later; if at q or before, it is y, read of c
  abbrev Kept : ℕ → Reply Raw → Reply Raw → Type 0
  Kept o (got t next kids) y = (o ≤ next) × (next ≤ q → y ≡ got t next kids)
  Kept o (bad r) y = Unit {0}

  span_there : (i e : ℕ) (s : Span) (r : ℕ) → p ≤ i → r ≤ q → span_at b i ≡ span e s r → span_at c i ≡ span e s r
  span_there i e s r h l = span_kept b c i r (omega arith) (λ j g f. same j (omega arith) (omega arith)) e s

  symbol_there : (i t j r : ℕ) → p ≤ i → r ≤ q → symbol_at b i ≡ symbol t j r → symbol_at c i ≡ symbol t j r
  symbol_there i t j r h l = symbol_kept b c i r (omega arith) (λ j g f. same j (omega arith) (omega arith)) t j

  kept_as : (o m : ℕ) (x y z : Reply Raw) → o ≤ m → (m ≤ q → y ≡ z) → Kept m x z → Kept o x y
  kept_as o m (got t next kids) y z h f k = let g = k.0 in (omega arith, λ l. f (omega arith) ∙ k.1 l)
  kept_as o m (bad r) y z h f k = tt

  kept_need : (o m : ℕ) (x y : Reply Raw) → o ≤ m → Kept m x y → Kept o (need b m x) (need c m y)
  kept_need o m x y h k = go (leb m (length b)) refl
    where
      there : m ≤ q → need c m y ≡ y
      there g = let l = le-leb m (length c) (omega arith) in simp l

      go : (z : Bool) → leb m (length b) ≡ z → Kept o (need b m x) (need c m y)
      go true e = simp e (kept_as o m x (need c m y) y h there k)
      go false e = simp e tt

  kept_if_lem : (o : ℕ) (z : Bool) (r : ℕ) (x y : Reply Raw) → Kept o x y → Kept o (if z then x else bad r) (if z then y else bad r)
  kept_if_lem o true r x y k = k
  kept_if_lem o false r x y k = tt

  kept_ident : (i : ℕ) (s : Span) (y : SymbolRead) → p ≤ i → symbol_at b i ≡ y → Symboled b i y → Kept (i + 1) (ident_of s y) (ident_of s (symbol_at c i))
  kept_ident i s (symbol t j n) h e w = (w.0, λ l. ap (ident_of s) (symbol_there i t j n h l e))
  kept_ident i s SymbolRead.short h e w = tt

  kept_literal : (o i : ℕ) (s : Span) (k r x r' x' : ℕ) (y : SymbolRead) → p ≤ i → o ≤ i + 1 → (i ≤ q → (r' ≡ r) × (x' ≡ x)) → symbol_at b i ≡ y → Symboled b i y
      → Kept o (literal_of s k r x y) (literal_of s k r' x' (symbol_at c i))
  kept_literal o i s k r x r' x' (symbol t j n) h g f e w =
      let u = w.0 in (
        omega arith,
        λ l.
            let z = symbol_there i t j n h l e in
            let v = f (omega arith) in
            rw (z, v.0, v.1),
      )
  kept_literal o i s k r x r' x' SymbolRead.short h g f e w = tt

  kept_closed : (o i : ℕ) (s : Span) (d : ℕ) (y : SpanRead) → p ≤ i → o ≤ i → span_at b i ≡ y → Spanned b i y → Kept o (closed101 b s d y) (closed101 c s d (span_at c i))
  kept_closed o i s d (span e t r) h g z w =
      let u = w.0 in
      kept_as o (r + 8) (closed101 b s d (span e t r)) (closed101 c s d (span_at c i)) (closed101 c s d (span e t r)) (omega arith)
      (λ l. ap (closed101 c s d) (span_there i e t r h (omega arith) z))
      (kept_need (r + 8) (r + 8) (got _ _ _) (got _ _ _) (omega arith) (
        omega arith,
        λ l.
            let x = word_kept b c p q room same r (omega arith) (omega arith) in
            let y = word_kept b c p q room same (r + 4) (omega arith) (omega arith) in
            simp (x, y),
      ))
  kept_closed o i s d SpanRead.short h g z w = tt

  -- … behind a span that ends at i, with the control byte d
  kept_controlled : (s : Span) (i d : ℕ) → p ≤ i → Kept (i + 1) (controlled b s i d) (controlled c s i d)
  unfolding controlled half_at
  kept_controlled s i d h = go _ _ _ _ _ _ refl refl refl refl refl refl
    where
      here : (j : ℕ) → i < j → j < q → byte_at c j ≡ byte_at b j
      here j g l = sym (same j (omega arith) l)

      fixed : (m k k' : ℕ) (t t' : Raw) → i < m → (m ≤ q → got t' m k' ≡ got t m k) → Kept (i + 1) (need b m (got t m k)) (need c m (got t' m k'))
      fixed m k k' t t' l f = kept_need (i + 1) m (got t m k) (got t' m k') (omega arith) (omega arith, f)

      long : (x y : Bool) → ltb 10 (d / 8) ≡ x → (eqb (d / 8) 5 || eqb (d / 8) 7 || eqb (d / 8) 9) ≡ y → Kept (i + 1) (form111 b s i d) (form111 c s i d)
      long true y e f = simp e tt
      long false true e f =
          simp (e, f)
          (kept_need (i + 1) (i + 3) _ _ (omega arith)
          (kept_literal (i + 3) (i + 3) s _ _ _ _ _ (symbol_at b (i + 3)) (omega arith) (omega arith)
          (λ l. (here (i + 1) (omega arith) (omega arith), here (i + 2) (omega arith) (omega arith))) refl (symbol_within b (i + 3))))
      long false false e f =
          simp (e, f)
          (kept_need (i + 1) (i + 2) _ _ (omega arith)
          (kept_literal (i + 2) (i + 2) s _ _ _ _ _ (symbol_at b (i + 2)) (omega arith) (omega arith)
          (λ l. (refl, here (i + 1) (omega arith) (omega arith))) refl (symbol_within b (i + 2))))

      go : (x₀ x₁ x₂ x₅ x₆ x₇ : Bool) → eqb (d % 8) 0 ≡ x₀ → eqb (d % 8) 1 ≡ x₁ → eqb (d % 8) 2 ≡ x₂ → eqb (d % 8) 5 ≡ x₅ → eqb (d % 8) 6 ≡ x₆ → eqb (d % 8) 7 ≡ x₇
          → Kept (i + 1) (controlled b s i d) (controlled c s i d)
      go true x₁ x₂ x₅ x₆ x₇ e₀ e₁ e₂ e₅ e₆ e₇ =
          simp e₀
          (kept_need (i + 1) (i + 3) _ _ (omega arith)
          (kept_if_lem (i + 3) (bits_agree s d) 2 (got _ _ _) (got _ _ _) (
            omega arith,
            λ l.
                let x = here (i + 1) (omega arith) (omega arith) in
                let y = here (i + 2) (omega arith) (omega arith) in
                simp (x, y),
          )))
      go false true x₂ x₅ x₆ x₇ e₀ e₁ e₂ e₅ e₆ e₇ =
          simp (e₀, e₁) (fixed (i + 3) _ _ _ _ (omega arith) (λ l.
          let x = here (i + 1) (omega arith) (omega arith) in
          let y = here (i + 2) (omega arith) (omega arith) in
          simp (x, y)))
      go false false true x₅ x₆ x₇ e₀ e₁ e₂ e₅ e₆ e₇ =
          simp (e₀, e₁, e₂) (fixed (i + 5) _ _ _ _ (omega arith) (λ l.
          let x = here (i + 1) (omega arith) (omega arith) in
          let y = here (i + 2) (omega arith) (omega arith) in
          let z = here (i + 3) (omega arith) (omega arith) in
          let w = here (i + 3 + 1) (omega arith) (omega arith) in
          simp (x, y, z, w)))
      go false false false true x₆ x₇ e₀ e₁ e₂ e₅ e₆ e₇ =
          simp (e₀, e₁, e₂, e₅) (kept_closed (i + 1) (i + 1) s d (span_at b (i + 1)) (omega arith) (omega arith) refl (span_within b (i + 1)))
      go false false false false true x₇ e₀ e₁ e₂ e₅ e₆ e₇ =
          simp (e₀, e₁, e₂, e₅, e₆) (fixed (i + 5) _ _ _ _ (omega arith) (λ l.
          let w = word_kept b c p q room same (i + 1) (omega arith) (omega arith) in
          simp w))
      go false false false false false true e₀ e₁ e₂ e₅ e₆ e₇ = simp (e₀, e₁, e₂, e₅, e₆, e₇) (long _ _ refl refl)
      go false false false false false false e₀ e₁ e₂ e₅ e₆ e₇ =
          simp (e₀, e₁, e₂, e₅, e₆, e₇)
          (kept_literal (i + 1) (i + 1) s _ _ _ _ _ (symbol_at b (i + 1)) (omega arith) (omega arith) (λ l. (refl, refl)) refl (symbol_within b (i + 1)))

  kept_after : (y : SpanRead) → span_at b p ≡ y → Spanned b p y → Kept p (after_span b y) (after_span c (span_at c p))
  unfolding after_span
  kept_after (span e s r) z w =
      let u = w.0 in
      kept_as p (r + 1) (after_span b (span e s r)) (after_span c (span_at c p)) (after_span c (span e s r)) (omega arith)
      (λ l. ap (λ x. after_span c x) (span_there p e s r (omega arith) (omega arith) z))
      (kept_need (r + 1) (r + 1) (rest b) (rest c) (omega arith) (go _ _ refl refl))
    where
      rest : List ℕ → Reply Raw
      rest a = if eqb (e % 2) 1 then got (punct s (byte_at a r / 2) (byte_at a r % 2 + 2 * (e / 2))) (r + 1) 0 else
          (if eqb (e / 2) 1 then ident_of s (symbol_at a r) else controlled a s r (byte_at a r))

      there : p ≤ r
      there = let u = w.0 in omega arith

      go : (x y : Bool) → eqb (e % 2) 1 ≡ x → eqb (e / 2) 1 ≡ y → Kept (r + 1) (rest b) (rest c)
      go true y f g = simp f (omega arith, λ l. let x = sym (same r there (omega arith)) in simp x)
      go false true f g = simp (f, g) (kept_ident r s (symbol_at b r) there refl (symbol_within b r))
      go false false f g =
          simp (f, g)
          (kept_as (r + 1) (r + 1) (controlled b s r (byte_at b r)) (controlled c s r (byte_at c r)) (controlled c s r (byte_at b r)) (omega arith)
          (λ l. ap (controlled c s r) (sym (same r there (omega arith)))) (kept_controlled s r (byte_at b r) there))
  kept_after SpanRead.short z w = tt

  pub tree_kept : (t : Raw) (kids : ℕ) → tree_at b p ≡ got t q kids → tree_at c p ≡ got t q kids
  unfolding tree_at
  tree_kept t kids e = (subst (λ x. Kept p x (tree_at c p)) e (kept_after (span_at b p) refl (span_within b p))).1 (omega arith)
