-- The bytes of the two-word form.
use Rattle.std.specs.Prelude.{ℕ, List, [], ◌∷◌}
use Rattle.format.specs.Span.{Span}
use Rattle.format.specs.Write.{first_word, second_word}
use Rattle.pack.specs.Packing.{words_bytes}

abbrev pub extended_bytes : ℕ → Span → List ℕ
extended_bytes extra s = words_bytes (first_word extra 1 s ∷ second_word s ∷ [])
