-- What row 2 being silent says of a tree's words, sort by sort.
use Prim.Native.Nat.{ℕ, ◌/◌, ◌%◌, ◌≤◌}
use mathlib.Core.Bool.{Bool, true, ◌&&◌, ◌||◌}
use mathlib.Core.Path.{◌≡◌}
use borrow.Author.Tests.{le-leb, leb-true, ne_eqb}
use lib.Dec.{leb, eqb}
use Rattle.std.specs.Prelude.{if◌then◌else◌, Ok}
use Rattle.format.specs.Width.{open_at, close_at}
use Rattle.format.specs.Part.{span_from, indexed}
use Rattle.format.specs.Fields.{span_fits, is_scalar, fields}
use Rattle.format.specs.Tree.{is_raw_kind}
use Rattle.format.specs.WordList.{raw_from, no_close, word_fields}
use Rattle.format.proofs.Each.{and_right, and₃, and₄}
use Rattle.tree.specs.Types.{spacing_of, is_raw_of, delimiter_of, lit_kind_of, spacing_answer, is_raw_answer, delimiter_answer, lit_kind_answer}

module _ (w : ℕ → ℕ) (h : word_fields w ≡ true) where
  pub three : (leb (w 0) 3 ≡ true) × (fields (raw_from 0 0 0 w) ≡ true) × ((eqb (w 0) 3 || no_close w) ≡ true)
  three = and₃ (leb (w 0) 3) (fields (raw_from 0 0 0 w)) (eqb (w 0) 3 || no_close w) h

  pub punct_fit : w 0 ≡ 0 → w 2 ≤ 2
  unfolding raw_from
  punct_fit e =
      let s = indexed 0 (span_from w open_at) in
      let f : (span_fits s && is_scalar (w 1) && leb (w 2) 2) ≡ true = (simp e at three).1 in
      leb-true (w 2) 2 (and₃ (span_fits s) (is_scalar (w 1)) (leb (w 2) 2) f).2

  pub ident_fit : w 0 ≡ 1 → w 2 ≤ 1
  unfolding raw_from
  ident_fit e =
      let s = indexed 0 (span_from w open_at) in
      let f : (span_fits s && leb (w 2) 1) ≡ true = (simp e at three).1 in
      leb-true (w 2) 1 (and_right (span_fits s) (leb (w 2) 1) f)

  -- kind, raw count, suffix length
  pub literal_fit : w 0 ≡ 2
      → (leb (w 2 % 256) 10 ≡ true) × ((if is_raw_kind (w 2 % 256) then leb (w 2 / 256 % 256) 255 else eqb (w 2 / 256 % 256) 0) ≡ true) × (leb (w 2 / 65536) 255 ≡ true)
  unfolding raw_from
  literal_fit e =
      let s = indexed 0 (span_from w open_at) in
      let c : Bool = if is_raw_kind (w 2 % 256) then leb (w 2 / 256 % 256) 255 else eqb (w 2 / 256 % 256) 0 in
      let f : (span_fits s && leb (w 2 % 256) 10 && c && leb (w 2 / 65536) 255) ≡ true = (simp e at three).1 in
      let g = and₄ (span_fits s) (leb (w 2 % 256) 10) c (leb (w 2 / 65536) 255) f in
      (g.1, g.2, g.3)

  pub subtree_fit : w 0 ≡ 3 → w 2 ≤ 3
  unfolding raw_from
  subtree_fit e =
      let s = indexed 0 (span_from w open_at) in
      let t = indexed 0 (span_from w close_at) in
      let f : (span_fits s && span_fits t && leb (w 2) 3) ≡ true = (simp e at three).1 in
      leb-true (w 2) 3 (and₃ (span_fits s) (span_fits t) (leb (w 2) 3) f).2

  -- ---- so the number of a kind is one

  pub spacing_fit : w 0 ≡ 0 → spacing_answer (w 2) ≡ Ok (spacing_of (w 2))
  unfolding spacing_answer
  spacing_fit e = simp (le-leb _ _ (punct_fit e))

  pub is_raw_fit : w 0 ≡ 1 → is_raw_answer (w 2) ≡ Ok (is_raw_of (w 2))
  unfolding is_raw_answer
  is_raw_fit e = simp (le-leb _ _ (ident_fit e))

  pub lit_kind_fit : w 0 ≡ 2 → lit_kind_answer (w 2 % 256) (w 2 / 256 % 256) ≡ Ok (lit_kind_of (w 2 % 256) (w 2 / 256 % 256))
  unfolding lit_kind_answer
  lit_kind_fit e = let f = literal_fit e in simp (f.0, f.1)

  pub delimiter_fit : w 0 ≡ 3 → delimiter_answer (w 2) ≡ Ok (delimiter_of (w 2))
  unfolding delimiter_answer
  delimiter_fit e = simp (le-leb _ _ (subtree_fit e))

-- a leaf whose fields are in range
pub leaf_fields : (w : ℕ → ℕ) → w 0 ≤ 3 → (w 0 ≡ 3 → ⊥) → fields (raw_from 0 0 0 w) ≡ true → no_close w ≡ word_fields w
leaf_fields w h k e = simp (le-leb (w 0) 3 h, ne_eqb (w 0) 3 k, e)
