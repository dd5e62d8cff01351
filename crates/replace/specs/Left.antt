-- What `set_token` and its preview leave in the work words.
use Rattle.std.specs.Prelude.{ℕ, List, length}
use Rattle.format.specs.Verdict.{Verdict}
use Rattle.format.specs.Replace.{replace_work}
use Rattle.format.specs.Unpack.{list_work, table_work, count_work, WorkLeft}

-- of a buffer b of k trees with its tables, a tree number n and the words w of a leaf; the work words a, c, d
module _ (b : List ℕ) (k : ℕ) (parts symbols : List ℕ) (n : ℕ) (w : List ℕ) (a c d : List ℕ) where
  abbrev pub worked : Verdict
  worked = replace_work b k parts symbols n w (length a) (length c) (length d)

  -- what the work words hold then
  pub record Left (a' c' d' : List ℕ) : Type 0 where
    pub list_left : WorkLeft worked (list_work k) a a'
    pub tables_left : WorkLeft worked (table_work k) c c'
    pub counts_left : WorkLeft worked (count_work k) d d'
