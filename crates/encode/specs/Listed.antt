-- What a punct or an ident takes behind its span.
use Rattle.std.specs.Prelude.{ℕ, length, ltb, eqb, if◌then◌else◌}
use Rattle.format.specs.Write.{symbol_bytes}

unfoldable pub char_size : ℕ → ℕ
char_size c = if ltb c 128 then 1 else 5

-- by the sort, 0 for a punct
unfoldable pub tail_size : ℕ → ℕ → ℕ → ℕ
tail_size x c y = if eqb x 0 then char_size c else length (symbol_bytes 0 y)
