-- A point of this crate as the definitions' point, and the answer of `restore_point`.
use Rattle.std.specs.Prelude.{ℕ, ◌-◌, not, List, Result, Ok, Err}
use Rattle.format.specs.Verdict.{Verdict, passed, refused, rule, each_from}
use Rattle.format.specs.Builder.{reaches_past}
use Rattle.format.specs.Builder as format
use Rattle.builder.specs.declared.state.Point.{Point}
use Rattle.tree.specs.declared.refusal.Refusal.{Refusal}

abbrev pub point_of : Point → format.Point
point_of p = record { trees = p.trees; opened = p.opened }

unfoldable pub point_answer : Verdict → format.Point → Result Point Refusal
point_answer passed p = Ok (record { trees = p.trees; opened = p.opened })
point_answer (refused r n) p = Err (record { number = r; tree = n })

-- trees i to n - 1: "11 if a closed subtree (not the root) before n reaches past n"
unfoldable pub closed_from : List ℕ → format.Builder → ℕ → ℕ → Verdict
closed_from l b n i = each_from (λ j. rule (not (reaches_past l b n j)) 11 0) (n - i) i
