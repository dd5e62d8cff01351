-- The new list and its tables in work words, for `set_token` and its preview.
use Rattle.std.specs.Prelude.{ℕ, ◌*◌, ◌≡◌, List, length, take, drop, Result, Ok, Err}
use Rattle.format.specs.Verdict.{Verdict, passed, refused}
use Rattle.format.specs.Width.{tree_size}
use Rattle.format.specs.MakeTables.{part_total, symbol_table}
use Rattle.format.specs.Replace.{exchanged}
use Rattle.format.specs.Unpack.{list_work}
use Rattle.tree.specs.declared.refusal.Refusal.{Refusal}
use Rattle.replace.specs.Left.{worked, Left}
use Rattle.replace.specs.Fresh.{Tabled}
use Rattle.replace.specs.declared.fresh.Counted.{Counted}

-- the new list stands in the front of the work words
pub record ListPut (b : List ℕ) (k : ℕ) (parts symbols : List ℕ) (n : ℕ) (w a a' : List ℕ) : Type 0 where
  pub words : take (tree_size * k) a' ≡ exchanged b k parts symbols n w
  pub behind : drop (list_work k) a' ≡ drop (list_work k) a

-- how many entries the tables of l have, or the refusal
unfoldable pub prepared_of : List ℕ → Verdict → Result Counted Refusal
prepared_of l passed = Ok (record { parts = part_total l; symbols = length (symbol_table l) })
prepared_of l (refused r m) = Err (record { number = r; tree = m })

-- of a buffer b of k trees with its tables, a tree number n and the words w of a leaf; the work words a, c, d
module _ (b : List ℕ) (k : ℕ) (parts symbols : List ℕ) (n : ℕ) (w : List ℕ) (a c d : List ℕ) where
  -- the new list and its tables stand in the work words
  pub record NewMade (r : Counted) (a' c' d' : List ℕ) : Type 0 where
    pub listed : ListPut b k parts symbols n w a a'
    pub tabled : Tabled (exchanged b k parts symbols n w) r c c' d d'

  pub record PreparedIn (r : Result Counted Refusal) (a' c' d' : List ℕ) : Type 0 where
    pub answer : r ≡ prepared_of (exchanged b k parts symbols n w) (worked b k parts symbols n w a c d)
    pub left : Left b k parts symbols n w a c d a' c' d'
    pub made : (t : Counted) → r ≡ Ok t → NewMade t a' c' d'
