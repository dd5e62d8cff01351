-- A hash of three words.
use Rattle.std.specs.Prelude.{ℕ, ◌+◌, ◌*◌, ◌/◌, ◌%◌}

-- the hash, scaled to size
unfoldable pub mix_of : ℕ → ℕ → ℕ → ℕ → ℕ
mix_of a b c size = (a * 1013904223 + b * 668265263 + c * 374761393) % 4294967296 * size / 4294967296
