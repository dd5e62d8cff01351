-- What row 1 leaves: the tables are those of a mode.
use Prim.Native.Nat.{ℕ}
use mathlib.Core.Bool.{true}
use mathlib.Core.Path.{◌≡◌}
use mathlib.Core.List.{List}
use Rattle.decode.proofs.DecodeUse.{decoded_got, decoded_refused}
use Rattle.tree.specs.Tables.{mode_in}
use Rattle.tree.specs.declared.tables.Tables.{Tables}
use Rattle.walk.specs.Source.{trees_sized, tree_reader_in, report_reader_in}

pub mode_sized : (b : List ℕ) (k : ℕ) (t : Tables) → trees_sized k ≡ true → (report_reader_in b k (mode_in t)).sized ≡ true
unfolding report_reader_in tree_reader_in
mode_sized b k t s = simp s

pub ruleset read_cases = (decoded_got, decoded_refused)
