-- The tables of one mode as the code has them: how far indices reach, and three runs.
use Rattle.std.specs.Prelude.{ℕ, ◌*◌, ◌≤◌, true, ◌≡◌, List, length}
use Rattle.format.specs.Width.{part_size}
use Rattle.format.specs.Tables as format
use Rattle.tree.specs.declared.limits.Limits.{Limits}

abbrev pub limits_of : Limits → format.Limits
limits_of x = record { limit = x.limit; root = x.root; symbols = x.symbols }

-- the mode behind row 1, which what is public asks first
abbrev pub mode_of : Limits → List ℕ → List ℕ → List ℕ → format.Mode
mode_of x parts pair symbols = record { sized = true; limit = x.limit; root = x.root; parts = parts; pair = pair; symbols = symbols }

-- the runs have what the limits say
pub record Whole (x : Limits) (parts pair symbols : List ℕ) : Type 0 where
  pub below : part_size * x.limit ≤ length parts
  pub two : 2 * part_size ≤ length pair
  pub many : x.symbols ≡ length symbols
