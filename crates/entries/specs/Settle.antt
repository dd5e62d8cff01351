-- Many keys: numbers and counts that stand side by side in the two lent runs become the table there.
use Rattle.std.specs.Prelude.{ℕ, ◌<◌, ◌≡◌, Bool, List, ◌++◌, length, get_or, drop}
use Rattle.format.specs.MakeTables.{keys_of, times_of, table_keys, words_of}
use Rattle.keys.specs.Keys.{place_in}
use Rattle.entries.specs.Runs.{key_at}

module _ (l : List ℕ) (symbols : Bool) where
  -- the first p pairs are the table's keys and counts in its order
  pub record Settled (p : ℕ) (w t : List ℕ) : Type 0 where
    pub number : p ≡ length (keys_of l symbols)
    pub keys : (k : ℕ) → k < p → get_or w k 0 ≡ key_at l symbols k
    pub counts : (k : ℕ) → k < p → get_or t k 0 ≡ times_of l symbols (key_at l symbols k)

  -- from the k-th key on, the numbers have given way to the keys' words
  pub record Expanding (p k : ℕ) (b w : List ℕ) : Type 0 where
    pub size : length w ≡ length b
    pub front : (i : ℕ) → i < k → get_or w i 0 ≡ key_at l symbols i
    pub behind : drop (place_in symbols k) w ≡ words_of l symbols (drop k (table_keys l symbols)) ++ drop (place_in symbols p) b
