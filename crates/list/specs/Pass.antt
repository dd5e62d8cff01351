-- Rows 2 to 4 from a tree on.
use Rattle.std.specs.Prelude.{ℕ, ◌-◌, Bool, List, [], ◌∷◌}
use Rattle.format.specs.Verdict.{Verdict, each_from}
use Rattle.format.specs.Plain.{sub}
use Rattle.format.specs.Nest.{nest_from, rooted, nest}
use Rattle.format.specs.Buffer.{word_shape}
use Rattle.format.specs.Writer.{find}
use Rattle.format.specs.WordList.{list_count, given, row_two}

module _ (l : List ℕ) where
  -- row 2 from tree n on
  unfoldable pub fields_from : ℕ → Verdict
  fields_from n = each_from (row_two l) (list_count l - n) n

  unfoldable pub is_sub : ℕ → Bool
  is_sub n = sub word_shape (given l) n

  -- the first subtree from tree n on, or the count
  unfoldable pub next_sub : ℕ → ℕ
  next_sub n = find is_sub (list_count l - n) n

  unfoldable pub is_rooted : Bool
  is_rooted = rooted word_shape (given l)

  -- rows 3 and 4 from tree n on, under the subtrees with these ends
  unfoldable pub pass_from : ℕ → List ℕ → Verdict
  pass_from n es = nest_from word_shape (given l) (list_count l - n) n es

  -- rows 3 and 4 below the root, which is taken to hold all others
  unfoldable pub nest_below : Verdict
  nest_below = pass_from 1 (list_count l ∷ [])

  -- rows 3 and 4 over the whole list
  unfoldable pub nest_row : Verdict
  nest_row = nest word_shape (given l)
