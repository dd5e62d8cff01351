-- A table that is read through for a run of keys, as the code hands it on.
use Rattle.std.specs.Prelude.{ℕ, List}
use Rattle.places.specs.Places.{Placed, Midway}
use Rattle.places.specs.declared.keys.Keys.{Keys}
use Rattle.places.specs.declared.table.Table.{Table}
use Rattle.places.specs.declared.portion.Portion.{Portion}

-- the first d keys of a run have their places
abbrev pub placed : Table → Keys → ℕ → List ℕ → Type 0
placed t k d out = Placed t.words.now t.layout t.len k.words.now k.layout k.base d out

-- d keys have their places, and the first e entries are read
abbrev pub midway : Portion → ℕ → ℕ → List ℕ → Type 0
midway p d e out = Midway p.table.words.now p.table.layout p.table.len p.index.keys.words.now p.index.keys.layout p.from p.index.keys.base p.first p.index.len d e out
