-- What the output holds where `tidy` answers that it wrote so many bytes.
use Rattle.std.specs.Prelude.{ℕ, ◌≡◌, List, length, take, drop, Result, Ok, ⊤}
use Rattle.format.specs.Buffer.{buffer_check}
use Rattle.format.specs.Lister.{buffer_loose}
use Rattle.format.specs.Unpack.{list_of}
use Rattle.format.specs.Tidy.{tidied}
use Rattle.tree.specs.Refusal.{verdict_answer}
use Rattle.tree.specs.declared.refusal.Refusal.{Refusal}

-- of a buffer b of k trees with its tables: n bytes are written, and the output x has become x'.
-- Ruled out: the buffer copied as it is; an index that is not the first place; a byte behind those that are told; an invented byte count
pub record InOrder (b : List ℕ) (k : ℕ) (parts symbols x : List ℕ) (n : ℕ) (x' : List ℕ) : Type 0 where
  -- "the buffer that document 01's writer makes for the same list and the same tables"
  pub bytes : take n x' ≡ tidied b k parts symbols
  -- what `check_buffer` answers on it
  pub checks : (r : Result ⊤ Refusal) → r ≡ verdict_answer (buffer_check (take n x') k parts symbols) → r ≡ Ok tt
  pub list : list_of (take n x') k parts symbols ≡ list_of b k parts symbols
  pub loose : buffer_loose (take n x') k parts symbols ≡ 0
  -- "Tidying a second time changes nothing"
  pub again : tidied (take n x') k parts symbols ≡ take n x'
  -- the answer is the byte length
  pub told : n ≡ length (tidied b k parts symbols)
  pub behind : drop n x' ≡ drop n x
  pub size : length x' ≡ length x
