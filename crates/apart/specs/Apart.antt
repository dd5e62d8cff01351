-- A table mode beside document 01's: so many parts of a run, the root's two in a run of their own under this index and the next.
use Rattle.std.specs.Prelude.{ℕ, ◌*◌, Bool, ◌&&◌, List, length, leb, eqb}
use Rattle.format.specs.Width.{part_size}
use Rattle.format.specs.Tables.{Mode}
use Rattle.walk.specs.Source.{trees_sized}

-- row 1: beside the root's two no more parts than 2,097,152, no more symbols than document 01 allows, and the runs have what is stated
unfoldable pub sized_apart : ℕ → List ℕ → List ℕ → List ℕ → Bool
sized_apart count parts pair symbols =
    leb count 2097152 && leb (part_size * count) (length parts) && eqb (length pair) (2 * part_size) && leb (length symbols) 1048576

-- the root's index may be one that stands for another part below the root: the tree's number tells which is meant
abbrev pub apart_mode : ℕ → ℕ → List ℕ → List ℕ → List ℕ → Mode
apart_mode count root parts pair symbols =
    record { sized = sized_apart count parts pair symbols; limit = count; root = root; parts = parts; pair = pair; symbols = symbols }

-- … and of the tree count
unfoldable pub sizes_apart : ℕ → ℕ → List ℕ → List ℕ → List ℕ → Bool
sizes_apart trees count parts pair symbols = trees_sized trees && sized_apart count parts pair symbols
