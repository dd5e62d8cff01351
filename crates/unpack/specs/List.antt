-- What the functions that store a buffer's list promise, over the tables of any mode. `unpack` does without: its contract is `list_of`.
use Rattle.std.specs.Prelude.{ℕ, List, []}
use Rattle.format.specs.Reader.{Reader, Reply, got, bad}
use Rattle.format.specs.Tables.{Mode, mode_tables}
use Rattle.format.specs.Check.{listing}
use Rattle.format.specs.Buffer.{word_shape, reader}
use Rattle.format.specs.WordList.{words_up_to}

unfoldable pub reader_in : List ℕ → ℕ → Mode → Reader (List ℕ)
reader_in b k M = reader b k (mode_tables M)

-- tree n at a place; it does not turn on how many trees there are
unfoldable pub read_at : List ℕ → Mode → ℕ → ℕ → Reply (List ℕ)
read_at b M n at = (reader b 0 (mode_tables M)).read n at

-- the words of a tree that is read; else none
abbrev pub words_read : Reply (List ℕ) → List ℕ
words_read (got w next kids) = w
words_read (bad r) = []

unfoldable pub list_in : List ℕ → ℕ → Mode → List ℕ
list_in b k M = words_up_to (listing word_shape (reader_in b k M)).tree k
