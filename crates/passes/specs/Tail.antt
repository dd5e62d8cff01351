-- The writer's bytes tree by tree, and its row 5 from a tree on.
use Rattle.std.specs.Prelude.{ℕ, zero, suc, ◌+◌, ◌-◌, List, [], ◌++◌, length, get_or}
use Rattle.format.specs.Verdict.{Verdict, each_from}
use Rattle.format.specs.Tree.{count_of}
use Rattle.format.specs.Write.{tree_bytes, suffixes}
use Rattle.format.specs.Tables.{Mode}
use Rattle.format.specs.WordList.{list_count}
use Rattle.format.specs.Writer.{raw_of, raws, row_five}

module _ (M : Mode) (l : List ℕ) where
  -- row 5 of trees n to stop - 1
  unfoldable pub five_in : ℕ → ℕ → Verdict
  five_in n stop = each_from (row_five M l) (stop - n) n

  -- … of trees n to the end
  abbrev pub five_from : ℕ → Verdict
  five_from n = five_in n (list_count l)

  -- the bytes of trees n to the end
  unfoldable pub rest_of : ℕ → List ℕ
  rest_of n = get_or (suffixes 0 (raws M l (list_count l) 0)) n []

  -- "Work words .. hold at i the bytes of trees i to the end"
  abbrev pub size_from : ℕ → ℕ
  size_from n = length (rest_of n)

  -- the bytes of tree n, a subtree's with those of its descendants
  unfoldable pub kids_of : ℕ → ℕ
  kids_of n = size_from (n + 1) - size_from (n + 1 + count_of (raw_of M l n))

  unfoldable pub bytes_at : ℕ → List ℕ
  bytes_at n = tree_bytes n (raw_of M l n) (kids_of n)

  -- the bytes of the trees before tree n
  unfoldable pub head_of : ℕ → List ℕ
  head_of zero = []
  head_of (suc n) = head_of n ++ bytes_at n
