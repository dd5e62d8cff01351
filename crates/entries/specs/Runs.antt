-- What the lent runs of one table hold, at the end and on the way there.
use Rattle.std.specs.Prelude.{ℕ, ◌<◌, ◌≡◌, Bool, List, Option, MatchOption, map, length, get_or, take}
use Rattle.format.specs.Word.{put}
use Rattle.format.specs.MakeTables.{keys_of, times_of, table_keys, words_of, table_words, table_counts}

module _ (l : List ℕ) (symbols : Bool) where
  -- the k-th key of the table
  abbrev pub key_at : ℕ → ℕ
  key_at k = get_or (table_keys l symbols) k 0

  -- numbers f and counts c by rank, and the order o of the ranks, are those of the table's p keys
  pub record Ready (p : ℕ) (f c o : List ℕ) : Type 0 where
    pub number : p ≡ length (keys_of l symbols)
    pub keys : (k : ℕ) → k < p → get_or f (get_or o k 0) 0 ≡ key_at k
    pub counts : (k : ℕ) → k < p → get_or c (get_or o k 0) 0 ≡ times_of l symbols (key_at k)

  -- the first k keys are stored
  pub record Stored (k : ℕ) (w w' t t' : List ℕ) : Type 0 where
    pub words : w' ≡ put w 0 (words_of l symbols (take k (table_keys l symbols)))
    pub tallies : t' ≡ put t 0 (map (times_of l symbols) (take k (table_keys l symbols)))

  -- the table is made: r keys, their words and their counts, each run followed by what stood there
  pub record Made (r : ℕ) (w w' t t' : List ℕ) : Type 0 where
    pub number : r ≡ length (keys_of l symbols)
    pub words : w' ≡ put w 0 (table_words l symbols)
    pub tallies : t' ≡ put t 0 (table_counts l symbols)

  -- the same where the number of keys is known; else nothing has changed
  abbrev pub MadeIf : Option ℕ → List ℕ → List ℕ → List ℕ → List ℕ → Type 0
  MadeIf r w w' t t' = MatchOption r ((w' ≡ w) × (t' ≡ t)) (λ p. Made p w w' t t')
