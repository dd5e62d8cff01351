-- Lists that have passed some of the writer's rows, over the tables of one mode.
use Rattle.std.specs.Prelude.{ℕ, ◌*◌, ◌≤◌, true, ◌≡◌, List, length}
use Rattle.format.specs.Verdict.{passed, each}
use Rattle.format.specs.Width.{part_size}
use Rattle.format.specs.Tables.{Mode}
use Rattle.format.specs.WordList.{list_count, list_rules}
use Rattle.format.specs.Builder.{holding_all}
use Rattle.format.specs.Writer.{row_five}

-- row 1 is silent on the list and on the tables
pub record Within (M : Mode) (l : List ℕ) : Type 0 where
  pub sized : M.sized ≡ true
  pub some_trees : 1 ≤ list_count l
  pub most_trees : list_count l ≤ 1048576
  pub below : part_size * M.limit ≤ length M.parts
  pub two : 2 * part_size ≤ length M.pair
  pub most_parts : M.limit ≤ 2097152
  pub most_root : M.root ≤ 2097152
  pub most_symbols : length M.symbols ≤ 1048576

-- … and rows 2 to 5 are where the root is taken to hold all others
pub record Passed (M : Mode) (l : List ℕ) : Type 0 where
  pub within : Within M l
  pub rules : list_rules (holding_all l) ≡ passed
  pub present : each (row_five M (holding_all l)) (list_count (holding_all l)) ≡ passed
