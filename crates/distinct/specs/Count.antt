-- How many distinct keys there are, key by key, and whether there is room for them.
use Rattle.std.specs.Prelude.{ℕ, ◌+◌, Bool, not, ◌&&◌, List, leb}
use Rattle.format.specs.Distinct.{any_in, news}
use Rattle.format.specs.MakeTables.{live_at, alike_at}
use Rattle.keys.specs.Keys.{place_in}

module _ (l : List ℕ) (symbols : Bool) where
  -- number u is a key, the same as v
  unfoldable pub same_key : ℕ → ℕ → Bool
  same_key u v = live_at l symbols u && alike_at l symbols u v

  -- one of the distinct keys below v is the same as v
  unfoldable pub is_met : ℕ → Bool
  is_met v = any_in (λ u. alike_at l symbols u v) (news (live_at l symbols) (alike_at l symbols) v)

  -- number v is a key and the first of its kind
  unfoldable pub fresh : ℕ → Bool
  fresh v = live_at l symbols v && not (is_met v)

-- runs of so many words and counts have room for p keys and more words
unfoldable pub ample : Bool → ℕ → ℕ → ℕ → ℕ → Bool
ample symbols p more words tallies = leb (place_in symbols p + more) words && leb p tallies
