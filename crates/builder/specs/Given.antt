-- What the steps are given, as the definitions have it.
use Rattle.std.specs.Prelude.{ℕ, List, ◌∷◌, ◌++◌, if◌then◌else◌}
use Rattle.format.specs.Part.{span_list, no_span}
use Rattle.tree.specs.Types.{tree_words_of}
use Rattle.tree.specs.Words.{token_fits}
use Rattle.tree.specs.declared.types.Leaf.{Leaf}
use Rattle.tree.specs.declared.types.TokenTree.TheVariants as trees

-- words of no sort, which row 2 refuses
abbrev pub no_tree : List ℕ
no_tree = 4 ∷ 0 ∷ 0 ∷ span_list no_span ++ span_list no_span

-- a leaf that is pushed, by its words. A raw count or a suffix length above 255 has no place in them ("kind + 256 × raw count +
-- 65,536 × suffix length"): a leaf out of range stands as a tree of no sort, which row 2 refuses too
unfoldable pub pushed : Leaf → List ℕ
pushed leaf = if token_fits (trees.Leaf leaf) then tree_words_of (trees.Leaf leaf) else no_tree
