-- A list that rows 1 to 4 pass, and its own tables.
use Rattle.std.specs.Prelude.{ℕ, ◌≡◌, List}
use Rattle.format.specs.Verdict.{passed}
use Rattle.format.specs.WordList.{list_rows}
use Rattle.format.specs.MakeTables.{part_table, symbol_table}

pub record OwnTables (l p s : List ℕ) : Type 0 where
  pub rows : list_rows l ≡ passed
  pub parts : p ≡ part_table l
  pub symbols : s ≡ symbol_table l
