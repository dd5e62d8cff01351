-- One law for each return of the functions of src/range.rt, with premises as the code's tests and calls give them.
use Prim.Native.Nat.{ℕ, ◌+◌, ◌*◌, ◌≤◌, ◌<◌}
use mathlib.Core.Bool.{Bool, true, false, not}
use mathlib.Core.Path.{◌≡◌, refl, sym, ◌∙◌}
use native.Mathlib.Omega.{arith}
use borrow.Author.Tests.{le-leb, lt-leb, not-true, not-false}
use lib.Dec.{leb}
use mathlib.Core.List.{List}
use Rattle.format.specs.Fields.{is_scalar}
use Rattle.format.specs.Root.{range_fits}
use Rattle.tree.specs.Types.{lit_kind_word, tree_words_of, words_of}
use Rattle.tree.specs.Words.{raw_count_of, token_fits}
use Rattle.tree.specs.declared.types.LitKind.{LitKind}
use Rattle.tree.specs.declared.types.LitKind.TheVariants.{Byte, Char, Integer, Float, Str, StrRaw, ByteStr, ByteStrRaw, CStr, CStrRaw, Err}
use Rattle.tree.specs.declared.types.Punct.{Punct}
use Rattle.tree.specs.declared.types.Ident.{Ident}
use Rattle.tree.specs.declared.types.Literal.{Literal}
use Rattle.tree.specs.declared.types.Leaf.{Leaf}
use Rattle.tree.specs.declared.types.Leaf.TheVariants as leaves
use Rattle.tree.specs.declared.types.TokenTree.TheVariants as trees
use Rattle.builder.specs.Given.{no_tree, pushed}

-- ---- a literal's kind by its word

-- kind + 256 × raw count, the kind at most 10
pub record Kind (w r : ℕ) : Type 0 where
  pub number : ℕ
  pub small : number ≤ 10
  pub word : w ≡ number + 256 * r

pub kind_of : (k : LitKind) → Kind (lit_kind_word k) (raw_count_of k)
unfolding lit_kind_word raw_count_of
kind_of Byte = record { number = 0; small = omega arith; word = refl }
kind_of Char = record { number = 1; small = omega arith; word = refl }
kind_of Integer = record { number = 2; small = omega arith; word = refl }
kind_of Float = record { number = 3; small = omega arith; word = refl }
kind_of Str = record { number = 4; small = omega arith; word = refl }
kind_of (StrRaw r) = record { number = 5; small = omega arith; word = refl }
kind_of ByteStr = record { number = 6; small = omega arith; word = refl }
kind_of (ByteStrRaw r) = record { number = 7; small = omega arith; word = refl }
kind_of CStr = record { number = 8; small = omega arith; word = refl }
kind_of (CStrRaw r) = record { number = 9; small = omega arith; word = refl }
kind_of Err = record { number = 10; small = omega arith; word = refl }

module _ (k : LitKind) (w : ℕ) (e : w ≡ lit_kind_word k) where
  raw_out : 65535 < w → leb (raw_count_of k) 255 ≡ false
  raw_out h =
      let x = (kind_of k).small in
      let y = (kind_of k).word in
      lt-leb (raw_count_of k) 255 (omega arith)

  raw_in_lem : w ≤ 65535 → leb (raw_count_of k) 255 ≡ true
  raw_in_lem h =
      let y = (kind_of k).word in
      le-leb (raw_count_of k) 255 (omega arith)

-- ---- a leaf

module _ (x : Bool) where
  module _ (p : Punct) (e : x ≡ range_fits (words_of p.span)) where
    pub punct_span : not x ≡ true → false ≡ token_fits (trees.Leaf (leaves.Punct p))
    unfolding token_fits
    punct_span h = let d : range_fits (words_of p.span) ≡ false = sym e ∙ not-true x h in simp d

    pub punct_char : not x ≡ false → (y : Bool) → y ≡ is_scalar p.char → y ≡ token_fits (trees.Leaf (leaves.Punct p))
    unfolding token_fits
    punct_char h y f = let d : range_fits (words_of p.span) ≡ true = sym e ∙ not-false x h in f ∙ simp d

  module _ (p : Literal) (e : x ≡ range_fits (words_of p.span)) where
    pub literal_span : not x ≡ true → false ≡ token_fits (trees.Leaf (leaves.Literal p))
    unfolding token_fits
    literal_span h = let d : range_fits (words_of p.span) ≡ false = sym e ∙ not-true x h in simp d

    module _ (h : not x ≡ false) (w : ℕ) (f : w ≡ lit_kind_word p.kind) where
      spanned : range_fits (words_of p.span) ≡ true
      spanned = sym e ∙ not-false x h

      pub literal_raw_lem : 65535 < w → false ≡ token_fits (trees.Leaf (leaves.Literal p))
      unfolding token_fits
      literal_raw_lem k = simp (spanned, raw_out p.kind w f k)

      module _ (k : w ≤ 65535) where
        pub literal_suffix : 255 < p.suffix_len → false ≡ token_fits (trees.Leaf (leaves.Literal p))
        unfolding token_fits
        literal_suffix l = simp (spanned, raw_in_lem p.kind w f k, lt-leb _ _ l)

        pub literal_ok : p.suffix_len ≤ 255 → true ≡ token_fits (trees.Leaf (leaves.Literal p))
        unfolding token_fits
        literal_ok l = simp (spanned, raw_in_lem p.kind w f k, le-leb _ _ l)

  module _ (leaf : Leaf) where
    pub leaf_punct : (p : Punct) → leaf ≡ leaves.Punct p → x ≡ token_fits (trees.Leaf (leaves.Punct p)) → x ≡ token_fits (trees.Leaf leaf)
    leaf_punct p e f = f ∙ rw e

    pub leaf_ident : (p : Ident) → leaf ≡ leaves.Ident p → x ≡ range_fits (words_of p.span) → x ≡ token_fits (trees.Leaf leaf)
    unfolding token_fits
    leaf_ident p e f = f ∙ rw e

    pub leaf_literal : (p : Literal) → leaf ≡ leaves.Literal p → x ≡ token_fits (trees.Leaf (leaves.Literal p)) → x ≡ token_fits (trees.Leaf leaf)
    leaf_literal p e f = f ∙ rw e

pub ruleset leaf_cases = (punct_span, punct_char, literal_span, literal_raw_lem, literal_suffix, literal_ok, leaf_punct, leaf_ident, leaf_literal)

-- ---- its words

module _ (leaf : Leaf) (x : Bool) (e : x ≡ token_fits (trees.Leaf leaf)) where
  pub leaf_none : not x ≡ true → no_tree ≡ pushed leaf
  unfolding pushed
  leaf_none h = let d : token_fits (trees.Leaf leaf) ≡ false = sym e ∙ not-true x h in rw d

  pub leaf_some : not x ≡ false → (ws : List ℕ) → ws ≡ tree_words_of (trees.Leaf leaf) → ws ≡ pushed leaf
  unfolding pushed
  leaf_some h ws f = let d : token_fits (trees.Leaf leaf) ≡ true = sym e ∙ not-false x h in f ∙ rw d

pub ruleset words_cases = (leaf_none, leaf_some)
