-- The lent runs of one table: the room that they have for its keys, and what stands behind those.
use Rattle.std.specs.Prelude.{ℕ, ◌≤◌, ◌≡◌, Bool, List, length, get_or}
use Rattle.format.specs.MakeTables.{keys_of}
use Rattle.keys.specs.Keys.{place_in}

-- the runs have room for the keys' words and for their counts
pub record Room (l : List ℕ) (symbols : Bool) (w t : List ℕ) : Type 0 where
  pub words : place_in symbols (length (keys_of l symbols)) ≤ length w
  pub tallies : length (keys_of l symbols) ≤ length t

-- a run has kept its length and what stands from place p on
pub record Behind (p : ℕ) (b b' : List ℕ) : Type 0 where
  pub size : length b' ≡ length b
  pub rest : (i : ℕ) → p ≤ i → get_or b' i 0 ≡ get_or b i 0
