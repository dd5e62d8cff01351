-- Words that are pushed: row 2 on them, by the tree that they say; and of a leaf's words, row 2 on the leaf.
use Prim.Native.Nat.{ℕ}
use mathlib.Core.Bool.{Bool, true, false, not, ◌&&◌}
use mathlib.Core.Path.{◌≡◌, refl, sym, ap, ◌∙◌}
use mathlib.Core.List.{List}
use native.Mathlib.Omega.{arith}
use lib.Dec.{eqb}
use lib.ListN.{length, get_or}
use lib.Seq.{take_all}
use Rattle.std.specs.Prelude.{Result, Ok, Err}
use Rattle.format.specs.Width.{tree_size}
use Rattle.format.specs.WordList.{word_of, raw_from, word_fields}
use Rattle.format.specs.Builder.{word_in, leaf_fits, leaf_words}
use Rattle.builder.proofs.Trees.{words_at}
use Rattle.tree.specs.Types.{tree_words_of}
use Rattle.tree.specs.Words.{tree_from, words_answer}
use Rattle.tree.proofs.WordsAgain.{words_of_tree}
use Rattle.tree.specs.declared.types.Subtree.{Subtree}
use Rattle.tree.specs.declared.types.Leaf.{Leaf}
use Rattle.tree.specs.declared.types.Leaf.TheVariants as leaves
use Rattle.tree.specs.declared.types.TokenTree.{TokenTree}
use Rattle.tree.specs.declared.types.TokenTree.TheVariants as trees

-- ---- what the tree says of the words

apart : {A : Type 0} (t : TokenTree) (k : ℕ) → ◌≡◌ {A = Result TokenTree ℕ} (Err k) (Ok t) → A
apart t k e = let z : ◌≡◌ {A = ℕ} 0 1 = cc in absurd (omega arith)

got_fields : (w : ℕ → ℕ) (t : TokenTree) → words_answer w ≡ Ok t → word_fields w ≡ true
unfolding words_answer
got_fields w t e = go (word_fields w) refl
  where
    go : (x : Bool) → word_fields w ≡ x → word_fields w ≡ true
    go true f = f
    go false f = let d : ◌≡◌ {A = Result TokenTree ℕ} (Err 2) (Ok t) = simp f at e in apart t 2 d

bad_fields : (w : ℕ → ℕ) (k : ℕ) → words_answer w ≡ Err k → word_fields w ≡ false
unfolding words_answer
bad_fields w k e = go (word_fields w) refl
  where
    go : (x : Bool) → word_fields w ≡ x → word_fields w ≡ false
    go true f = let d : ◌≡◌ {A = Result TokenTree ℕ} (Ok (tree_from w)) (Err k) = simp f at e in apart (tree_from w) k (sym d)
    go false f = f

leaf_sort : (x : Leaf) → eqb (get_or (tree_words_of (trees.Leaf x)) 0 0) 3 ≡ false
unfolding tree_words_of
leaf_sort (leaves.Punct p) = refl
leaf_sort (leaves.Ident p) = refl
leaf_sort (leaves.Literal p) = refl

subtree_sort : (p : Subtree) → eqb (get_or (tree_words_of (trees.Subtree p)) 0 0) 3 ≡ true
unfolding tree_words_of
subtree_sort p = refl

-- no subtree, and row 2 is silent
is_leaf_lem : (a b : Bool) → a ≡ false → b ≡ true → true ≡ (not a && b)
is_leaf_lem a b e f = rw (e, f)

no_leaf_lem : (a b : Bool) → a ≡ true → false ≡ (not a && b)
no_leaf_lem a b e = rw e

no_words : (a b : Bool) → b ≡ false → false ≡ (not a && b)
no_words true b e = refl
no_words false b e = sym e

-- the words of a list of one tree are its words
fields_here : (w : List ℕ) (x : Bool) → word_fields (word_of w 0) ≡ x → word_fields (word_in w) ≡ x
unfolding raw_from
fields_here w x e = e

module _ (w : List ℕ) (r : Result TokenTree ℕ) (e : r ≡ words_answer (word_of w 0)) where
  pub words_none : (k : ℕ) → r ≡ Err k → false ≡ leaf_fits w
  words_none k q = no_words (eqb (get_or w 0 0) 3) (word_fields (word_in w)) (fields_here w false (bad_fields (word_of w 0) k (sym e ∙ q)))

  module _ (t : TokenTree) (q : r ≡ Ok t) where
    first : get_or (tree_words_of t) 0 0 ≡ get_or w 0 0
    first = ap (λ (l : List ℕ). get_or l 0 0) (words_of_tree (word_of w 0) t (sym e ∙ q))

    sorted : (u : TokenTree) → t ≡ u → eqb (get_or w 0 0) 3 ≡ eqb (get_or (tree_words_of u) 0 0) 3
    sorted u k = ap (λ (n : ℕ). eqb n 3) (sym first) ∙ ap (λ (v : TokenTree). eqb (get_or (tree_words_of v) 0 0) 3) k

    pub words_leaf : (x : Leaf) → t ≡ trees.Leaf x → true ≡ leaf_fits w
    words_leaf x k =
        is_leaf_lem (eqb (get_or w 0 0) 3) (word_fields (word_in w)) (sorted (trees.Leaf x) k ∙ leaf_sort x) (fields_here w true (got_fields (word_of w 0) t (sym e ∙ q)))

    pub words_subtree : (p : Subtree) → t ≡ trees.Subtree p → false ≡ leaf_fits w
    words_subtree p k = no_leaf_lem (eqb (get_or w 0 0) 3) (word_fields (word_in w)) (sorted (trees.Subtree p) k ∙ subtree_sort p)

pub ruleset words_fit_cases = (words_none, words_leaf, words_subtree)

-- ---- what is stored: a tree's words are themselves

pub words_whole : (w : List ℕ) → length w ≡ tree_size → leaf_words w ≡ w
words_whole w e = words_at w 0 (omega arith) ∙ take_all tree_size w (omega arith)
