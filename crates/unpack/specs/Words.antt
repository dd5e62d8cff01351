-- A tree's list words by its parts.
use Rattle.std.specs.Prelude.{ℕ, List, ◌∷◌, ◌++◌}
use Rattle.format.specs.Part.{Part}
use Rattle.format.specs.Span.{Span}
use Rattle.pack.specs.Answer.{span_of}
use Rattle.tree.specs.Types.{span_with, span_list, zeros}
use Rattle.tree.specs.declared.raw.RawSubtree.{RawSubtree}

-- a leaf of this sort, with its own two words
abbrev pub leaf_list : Part → ℕ → ℕ → ℕ → Span → List ℕ
leaf_list p sort first second s = sort ∷ first ∷ second ∷ span_list (span_with p s) ++ zeros

abbrev pub subtree_list : Part → Part → RawSubtree → List ℕ
subtree_list p q t = 3 ∷ t.len.0 ∷ t.kind ∷ span_list (span_with p (span_of t.opening)) ++ span_list (span_with q (span_of t.closing))
