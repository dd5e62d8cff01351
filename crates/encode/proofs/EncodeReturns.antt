-- One law for each return of the functions of src/encode.rt that test indices (row 8), with premises as the code's tests and calls give them.
use Prim.Native.Nat.{ℕ, ◌<◌, ◌≤◌}
use mathlib.Core.Bool.{Bool, true, false, not, ◌&&◌}
use mathlib.Core.Path.{◌≡◌, sym, ◌∙◌}
use borrow.Author.Tests.{lt-ltb, le-ltb, not-true, not-false}
use Rattle.format.specs.Span.{Span}
use Rattle.pack.specs.Answer.{span_of}
use Rattle.tree.specs.Raw.{raw_of}
use Rattle.encode.specs.Encode.{part_fits, symbol_fits, indices}
use Rattle.tree.specs.declared.raw.RawPunct.{RawPunct}
use Rattle.tree.specs.declared.raw.RawIdent.{RawIdent}
use Rattle.tree.specs.declared.raw.RawLiteral.{RawLiteral}
use Rattle.tree.specs.declared.raw.RawSubtree.{RawSubtree}
use Rattle.tree.specs.declared.raw.RawTree.{RawTree}
use Rattle.tree.specs.declared.raw.RawTree.TheVariants.{Punct, Ident, Literal, Subtree}

module _ (s : Span) where
  pub part_8 : 268435456 ≤ s.index → false ≡ part_fits s
  part_8 h = simp (le-ltb _ _ h)

  pub part_fits_lem : s.index < 268435456 → true ≡ part_fits s
  part_fits_lem h = simp (lt-ltb _ _ h)

  module _ (y : Bool) (e : y ≡ part_fits s) where
    pub leaf_part_8 : (i : ℕ) → not y ≡ true → false ≡ (part_fits s && symbol_fits i)
    leaf_part_8 i h = let a : part_fits s ≡ false = sym e ∙ not-true y h in simp a

    pub open_part_8 : (t : Span) → not y ≡ true → false ≡ (part_fits s && part_fits t)
    open_part_8 t h = let a : part_fits s ≡ false = sym e ∙ not-true y h in simp a

    module _ (h : not y ≡ false) where
      pub leaf_symbol_8 : (i : ℕ) → 536870912 ≤ i → false ≡ (part_fits s && symbol_fits i)
      leaf_symbol_8 i g = let a : part_fits s ≡ true = sym e ∙ not-false y h in simp (a, le-ltb _ _ g)

      pub leaf_fits_lem : (i : ℕ) → i < 536870912 → true ≡ (part_fits s && symbol_fits i)
      leaf_fits_lem i g = let a : part_fits s ≡ true = sym e ∙ not-false y h in simp (a, lt-ltb _ _ g)

      pub close_part_lem : (t : Span) (z : Bool) → z ≡ part_fits t → z ≡ (part_fits s && part_fits t)
      close_part_lem t z f = let a : part_fits s ≡ true = sym e ∙ not-false y h in f ∙ simp a

module _ (tree : RawTree) (r : Bool) where
  pub indices_of_punct : (p : RawPunct) → tree ≡ Punct p → r ≡ part_fits (span_of p.span) → r ≡ indices (raw_of tree)
  unfolding raw_of
  indices_of_punct p e f = f ∙ rw e

  pub indices_of_ident : (p : RawIdent) → tree ≡ Ident p → r ≡ (part_fits (span_of p.span) && symbol_fits p.symbol) → r ≡ indices (raw_of tree)
  unfolding raw_of
  indices_of_ident p e f = f ∙ rw e

  pub indices_of_literal : (p : RawLiteral) → tree ≡ Literal p → r ≡ (part_fits (span_of p.span) && symbol_fits p.symbol) → r ≡ indices (raw_of tree)
  unfolding raw_of
  indices_of_literal p e f = f ∙ rw e

  pub indices_of_subtree : (p : RawSubtree) → tree ≡ Subtree p → r ≡ (part_fits (span_of p.opening) && part_fits (span_of p.closing)) → r ≡ indices (raw_of tree)
  unfolding raw_of
  indices_of_subtree p e f = f ∙ rw e

pub ruleset index_cases = (part_8, part_fits_lem, leaf_part_8, open_part_8, leaf_symbol_8, leaf_fits_lem, close_part_lem, indices_of_punct, indices_of_ident, indices_of_literal, indices_of_subtree)
