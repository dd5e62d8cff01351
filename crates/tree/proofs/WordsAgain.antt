-- A tree and its words: the words of the tree that was read are those words, and the tree of a tree's words is that tree.
use Prim.Native.Nat.{ℕ, zero, suc, ◌+◌, ◌*◌, ◌/◌, ◌%◌, ◌≤◌}
use mathlib.Core.Bool.{Bool, true, false}
use mathlib.Core.Path.{◌≡◌, refl, sym, ap, ◌∙◌}
use mathlib.Core.List.{◌∷◌, ◌++◌}
use native.Mathlib.Omega.{arith}
use native.Mathlib.Nat.{div-div-eq-div-mul}
use borrow.Author.Tests.{leb-true}
use lib.Dec.{leb, eqb}
use lib.ListN.{length}
use Rattle.std.specs.Prelude.{if◌then◌else◌, Result}
use Rattle.format.specs.Width.{open_at, close_at, tree_size}
use Rattle.format.specs.Part.{span_list, span_from, no_span}
use Rattle.format.specs.Fields.{is_scalar}
use Rattle.format.specs.WordList.{word_of, tree_list, raw_from, no_close, word_fields}
use Rattle.format.proofs.Each.{and_left, and_right, and₃}
use Rattle.format.proofs.PartLaw.{same_span_lem}
use Rattle.format.specs.Tree.{is_raw_kind}
use Rattle.tree.specs.Types.{spacing_of, is_raw_of, delimiter_of, lit_kind_of, spacing_word, is_raw_word, delimiter_word, lit_kind_word, tree_words_of}
use Rattle.tree.specs.Words.{tree_from, words_answer, raw_count_of, end_fits, token_fits}
use Rattle.tree.specs.declared.types.Spacing.{Spacing}
use Rattle.tree.specs.declared.types.Spacing.TheVariants.{Alone, Joint, JointHidden}
use Rattle.tree.specs.declared.types.IdentIsRaw.{IdentIsRaw}
use Rattle.tree.specs.declared.types.IdentIsRaw.TheVariants.{No, Yes}
use Rattle.tree.specs.declared.types.DelimiterKind.{DelimiterKind}
use Rattle.tree.specs.declared.types.DelimiterKind.TheVariants.{Parenthesis, Brace, Bracket, Invisible}
use Rattle.tree.specs.declared.types.LitKind.{LitKind}
use Rattle.tree.specs.declared.types.LitKind.TheVariants.{Byte, Char, Integer, Float, Str, StrRaw, ByteStr, ByteStrRaw, CStr, CStrRaw, Err}
use Rattle.tree.specs.declared.types.Literal.{Literal}
use Rattle.tree.specs.declared.types.Leaf.TheVariants as leaves
use Rattle.tree.specs.declared.types.TokenTree.{TokenTree}
use Rattle.tree.specs.declared.types.TokenTree.TheVariants as trees
use Rattle.tree.proofs.WordsFit.{three, punct_fit, ident_fit, literal_fit, subtree_fit}
use Rattle.tree.proofs.TypesWords.{spacing_again, is_raw_again, delimiter_again, kind_again, one_word}
use Rattle.std.specs.declared.result.Result.TheVariants as results

-- ---- the words of the tree that was read

parts_of : (v : ℕ) → v / 65536 ≤ 255 → (v % 256 + 256 * (v / 256 % 256) + 65536 * (v / 65536)) % 4294967296 ≡ v
parts_of v h = omega (arith, div-div-eq-div-mul v 256 256)

module _ (w : ℕ → ℕ) (h : word_fields w ≡ true) where
  -- the words of a leaf end with those of no span
  leaf_list_lem : no_close w ≡ true → (x y z : ℕ) → (x ∷ y ∷ z ∷ span_list (span_from w open_at) ++ span_list no_span) ≡ (x ∷ y ∷ z ∷ span_list (span_from w open_at) ++ span_list (span_from w close_at))
  leaf_list_lem e x y z = ap (λ s. x ∷ y ∷ z ∷ span_list (span_from w open_at) ++ span_list s) (sym (same_span_lem (span_from w close_at) no_span e))

  again_punct : w 0 ≡ 0 → tree_words_of (tree_from w) ≡ tree_list w
  unfolding tree_from tree_words_of raw_from
  again_punct e =
      let n : no_close w ≡ true = simp e at (three w h).2 in
      let k = spacing_again (w 2) (punct_fit w h e) in
      simp (e, k) (leaf_list_lem n 0 (w 1) (w 2))

  again_ident : w 0 ≡ 1 → tree_words_of (tree_from w) ≡ tree_list w
  unfolding tree_from tree_words_of raw_from
  again_ident e =
      let n : no_close w ≡ true = simp e at (three w h).2 in
      let k = is_raw_again (w 2) (ident_fit w h e) in
      simp (e, k) (leaf_list_lem n 1 (w 1) (w 2))

  again_literal : w 0 ≡ 2 → tree_words_of (tree_from w) ≡ tree_list w
  unfolding tree_from tree_words_of raw_from
  again_literal e =
      let n : no_close w ≡ true = simp e at (three w h).2 in
      let g = literal_fit w h e in
      let k = kind_again (w 2 % 256) (w 2 / 256 % 256) (leb-true (w 2 % 256) 10 g.0) g.1 in
      let p = parts_of (w 2) (leb-true (w 2 / 65536) 255 g.2) in
      simp (e, k, p) (leaf_list_lem n 2 (w 1) (w 2))

  again_subtree : w 0 ≡ 3 → tree_words_of (tree_from w) ≡ tree_list w
  unfolding tree_from tree_words_of raw_from
  again_subtree e =
      let k = delimiter_again (w 2) (subtree_fit w h e) in
      simp (e, k)

  pub tree_words_again : tree_words_of (tree_from w) ≡ tree_list w
  tree_words_again = go (w 0) refl
    where
      go : (k : ℕ) → w 0 ≡ k → tree_words_of (tree_from w) ≡ tree_list w
      go zero e = again_punct e
      go (suc zero) e = again_ident e
      go (suc (suc zero)) e = again_literal e
      go (suc (suc (suc zero))) e = again_subtree e
      go (suc (suc (suc (suc k)))) e = let l : w 0 ≤ 3 = leb-true (w 0) 3 (three w h).0 in absurd (omega arith)

got_same : (t u : TokenTree) → ◌≡◌ {A = Result TokenTree ℕ} (results.Ok t) (results.Ok u) → t ≡ u
got_same t u e = cc

-- what `tree_from_words` gives has the words that it was read from
pub words_of_tree : (w : ℕ → ℕ) (t : TokenTree) → words_answer w ≡ results.Ok t → tree_words_of t ≡ tree_list w
unfolding words_answer
words_of_tree w t e = go (word_fields w) refl
  where
    go : (x : Bool) → word_fields w ≡ x → tree_words_of t ≡ tree_list w
    go true f = let d : ◌≡◌ {A = Result TokenTree ℕ} (results.Ok (tree_from w)) (results.Ok t) = simp f at e in ap tree_words_of (sym (got_same (tree_from w) t d)) ∙ tree_words_again w f
    go false f = let d : ◌≡◌ {A = Result TokenTree ℕ} (results.Err 2) (results.Ok t) = simp f at e in cc

-- ---- the tree of a tree's words

spacing_back : (x : Spacing) → (spacing_of (spacing_word x) ≡ x) × (leb (spacing_word x) 2 ≡ true)
unfolding spacing_of spacing_word
spacing_back Alone = (refl, refl)
spacing_back Joint = (refl, refl)
spacing_back JointHidden = (refl, refl)

is_raw_back : (x : IdentIsRaw) → (is_raw_of (is_raw_word x) ≡ x) × (leb (is_raw_word x) 1 ≡ true)
unfolding is_raw_of is_raw_word
is_raw_back No = (refl, refl)
is_raw_back Yes = (refl, refl)

delimiter_back : (x : DelimiterKind) → (delimiter_of (delimiter_word x) ≡ x) × (leb (delimiter_word x) 3 ≡ true)
unfolding delimiter_of delimiter_word
delimiter_back Parenthesis = (refl, refl)
delimiter_back Brace = (refl, refl)
delimiter_back Bracket = (refl, refl)
delimiter_back Invisible = (refl, refl)

kind_number : LitKind → ℕ
kind_number Byte = 0
kind_number Char = 1
kind_number Integer = 2
kind_number Float = 3
kind_number Str = 4
kind_number (StrRaw r) = 5
kind_number ByteStr = 6
kind_number (ByteStrRaw r) = 7
kind_number CStr = 8
kind_number (CStrRaw r) = 9
kind_number Err = 10

record KindBack (x : LitKind) : Type 0 where
  whole : lit_kind_word x ≡ kind_number x + 256 * raw_count_of x
  back : lit_kind_of (kind_number x) (raw_count_of x) ≡ x
  most : leb (kind_number x) 10 ≡ true
  counted : (if is_raw_kind (kind_number x) then leb (raw_count_of x) 255 else eqb (raw_count_of x) 0) ≡ leb (raw_count_of x) 255

kind_back : (x : LitKind) → KindBack x
unfolding lit_kind_word lit_kind_of kind_number raw_count_of
kind_back Byte = record { whole = refl; back = refl; most = refl; counted = refl }
kind_back Char = record { whole = refl; back = refl; most = refl; counted = refl }
kind_back Integer = record { whole = refl; back = refl; most = refl; counted = refl }
kind_back Float = record { whole = refl; back = refl; most = refl; counted = refl }
kind_back Str = record { whole = refl; back = refl; most = refl; counted = refl }
kind_back (StrRaw r) = record { whole = refl; back = refl; most = refl; counted = refl }
kind_back ByteStr = record { whole = refl; back = refl; most = refl; counted = refl }
kind_back (ByteStrRaw r) = record { whole = refl; back = refl; most = refl; counted = refl }
kind_back CStr = record { whole = refl; back = refl; most = refl; counted = refl }
kind_back (CStrRaw r) = record { whole = refl; back = refl; most = refl; counted = refl }
kind_back Err = record { whole = refl; back = refl; most = refl; counted = refl }

module _ (k r x : ℕ) (f : k ≤ 10) (g : r ≤ 255) (h : x ≤ 255) where
  word_kind : (k + 256 * r + 65536 * x) % 256 ≡ k
  word_kind = omega arith

  word_count : (k + 256 * r + 65536 * x) / 256 % 256 ≡ r
  word_count = omega arith

  word_suffix : (k + 256 * r + 65536 * x) / 65536 ≡ x
  word_suffix = omega arith

literal_back : (p : Literal) → token_fits (trees.Leaf (leaves.Literal p)) ≡ true
    → words_answer (word_of (tree_words_of (trees.Leaf (leaves.Literal p))) 0) ≡ results.Ok (trees.Leaf (leaves.Literal p))
unfolding words_answer tree_words_of tree_from raw_from token_fits
literal_back p e =
    let k : ℕ = kind_number p.kind in
    let r : ℕ = raw_count_of p.kind in
    let x : ℕ = p.suffix_len in
    let a = and₃ (end_fits p.span) (leb r 255) (leb x 255) e in
    let b = kind_back p.kind in
    let f : k ≤ 10 = leb-true k 10 b.most in
    let g : r ≤ 255 = leb-true r 255 a.1 in
    let h : x ≤ 255 = leb-true x 255 a.2 in
    let c : (if is_raw_kind k then leb r 255 else eqb r 0) ≡ true = b.counted ∙ a.1 in
    let v : (lit_kind_word p.kind + 65536 * x) % 4294967296 ≡ k + 256 * r + 65536 * x = rw b.whole (one_word k r x f g h) in
    simp (v, word_kind k r x f g h, word_count k r x f g h, word_suffix k r x f g h, a.0, b.most, c, a.2, b.back)

-- the words of a tree whose fields are in range read as that tree
pub tree_of_words : (t : TokenTree) → token_fits t ≡ true → words_answer (word_of (tree_words_of t) 0) ≡ results.Ok t
unfolding words_answer tree_words_of tree_from raw_from token_fits
tree_of_words (trees.Leaf (leaves.Punct p)) e =
    let a = spacing_back p.spacing in
    simp (and_left (end_fits p.span) (is_scalar p.char) e, and_right (end_fits p.span) (is_scalar p.char) e, a.0, a.1)
tree_of_words (trees.Leaf (leaves.Ident p)) e = let a = is_raw_back p.is_raw in simp (e, a.0, a.1)
tree_of_words (trees.Leaf (leaves.Literal p)) e = literal_back p e
tree_of_words (trees.Subtree p) e =
    let a = delimiter_back p.kind in
    simp (and_left (end_fits p.opening) (end_fits p.closing) e, and_right (end_fits p.opening) (end_fits p.closing) e, a.0, a.1)

pub tree_long : (t : TokenTree) → length (tree_words_of t) ≡ tree_size
unfolding tree_words_of
tree_long (trees.Leaf (leaves.Punct p)) = refl
tree_long (trees.Leaf (leaves.Ident p)) = refl
tree_long (trees.Leaf (leaves.Literal p)) = refl
tree_long (trees.Subtree p) = refl
