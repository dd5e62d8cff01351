-- Keys as the code hands them on.
use Rattle.std.specs.Prelude.{ℕ}
use Rattle.format.specs.Part.{Part}
use Rattle.places.specs.Key.{key_at, shift}
use Rattle.places.specs.declared.keys.Keys.{Keys}

abbrev pub keys_of : Keys → ℕ → Part
keys_of k = shift (key_at k.words.now k.layout) k.base
