-- What tickets 1, 3 and 4 of document 02 begin with: the list of an admitted buffer, and the work words that are lent for it.
use Rattle.std.specs.Prelude.{ℕ, ◌+◌, ◌*◌, Bool, ◌&&◌, ◌≡◌, List, drop, leb}
use Rattle.format.specs.Verdict.{Verdict, contents}
use Rattle.format.specs.Check.{listing}
use Rattle.format.specs.Buffer.{word_shape, own_reader}
use Rattle.format.specs.WordList.{words_up_to}

-- "The source list is that of an admitted buffer": its words
unfoldable pub list_of : List ℕ → ℕ → List ℕ → List ℕ → List ℕ
list_of b k parts symbols = words_up_to (listing word_shape (own_reader b k parts symbols)).tree k

-- "work words fewer than 32 × trees + 32": in three runs, for the list, for the tables, for counts and then sizes
abbrev pub list_work : ℕ → ℕ
list_work k = 16 * k + 16

abbrev pub table_work : ℕ → ℕ
table_work k = 10 * k + 10

abbrev pub count_work : ℕ → ℕ
count_work k = 6 * k + 6

-- whether runs of so many words are long enough
abbrev pub work_fits : ℕ → ℕ → ℕ → ℕ → Bool
work_fits k a c d = leb (list_work k) a && leb (table_work k) c && leb (count_work k) d

-- what a run of work words holds then, v being the verdict up to their own 6: "open", but all of it stays where v refuses, and else what lies past its share
pub record WorkLeft (v : Verdict) (share : ℕ) (old new : List ℕ) : Type 0 where
  pub kept : new ≡ contents v old new
  pub behind : drop share new ≡ drop share old
