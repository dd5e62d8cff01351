-- The rows of one tree whose bytes are there and whose fields are in range: the root's form, then its indices.
use Rattle.std.specs.Prelude.{ℕ, Bool, true, eqb, Result, Ok, Err, ⊤, if◌then◌else◌}
use Rattle.format.specs.Reader.{Reply, got, bad}
use Rattle.format.specs.Tree.{Raw}
use Rattle.format.specs.Tables.{TableRules, Limits, indexed_below, indexed_root, row_eight}
use Rattle.format.specs.Buffer.{formed}
use Rattle.format.specs.Loose.{Loose}
use Rattle.tree.specs.Raw.{raw_of}
use Rattle.tree.specs.Loose.{loose_of}
use Rattle.tree.specs.declared.raw.RawTree.{RawTree}
use Rattle.decode.specs.declared.loose.Reported.{Reported}

-- tree n from a place to the next, whose indices are a root's, or another tree's, or neither: 2, 8, or 0
unfoldable pub row_from : ℕ → ℕ → ℕ → Bool → Bool → ℕ
row_from n at next root below = if formed n at next then (if (if eqb n 0 then root else below) then 0 else 8) else 2

abbrev pub row_of : Limits → ℕ → ℕ → ℕ → Raw → ℕ
row_of N n at next t = row_from n at next (indexed_root N t) (indexed_below N t)

-- a row's number as the code's answer: 0 refuses nothing
abbrev pub row_answer : ℕ → Result ⊤ ℕ
row_answer r = if eqb r 0 then Ok tt else Err r

-- how far a tree's indices may reach, behind row 1
abbrev pub limit_rules : Limits → TableRules
limit_rules N = record { sized = true; judged = row_eight N }

-- a tree that was judged, with its report
unfoldable pub judged_of : Result (Reported RawTree) ℕ → Reply (Raw × Loose)
judged_of (Ok y) = got (raw_of y.tree, loose_of y.loose) y.next y.children.0
judged_of (Err r) = bad r
