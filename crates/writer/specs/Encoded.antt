-- DEMAND 2 as statements: what the bytes of a list are, and what the lent runs hold where `encode_list` answers that it wrote so many.
use Rattle.std.specs.Prelude.{ℕ, ◌+◌, ◌≤◌, ◌<◌, ◌≡◌, List, length, take, drop, Result, Ok, ⊤}
use Rattle.format.specs.Check.{listing}
use Rattle.format.specs.Buffer.{word_shape, own_reader, buffer_check}
use Rattle.format.specs.Write.{work_words}
use Rattle.format.specs.WordList.{word_of, tree_list, words_up_to, list_count}
use Rattle.format.specs.Writer.{trees, packed}
use Rattle.tree.specs.Refusal.{verdict_answer}
use Rattle.tree.specs.declared.refusal.Refusal.{Refusal}

-- the bytes b are the list l over these tables.
-- Ruled out: bytes in form 101 where 000 fits, which read alike; a buffer that lacks the last tree
pub record Encodes (parts symbols l b : List ℕ) : Type 0 where
  -- "the bytes equal the Rust's over the same tables": the definition's, which is taken from it
  pub bytes : b ≡ packed parts symbols l
  -- what `check_buffer` answers on them, with the list's tree count
  pub checks : (r : Result ⊤ Refusal) → r ≡ verdict_answer (buffer_check b (list_count l) parts symbols) → r ≡ Ok tt
  -- "reading those bytes gives that list back": tree by tree its list words, and all of them
  pub reads : (n : ℕ) → n < list_count l → (listing word_shape (own_reader b (list_count l) parts symbols)).tree n ≡ tree_list (word_of l n)
  pub whole : words_up_to (listing word_shape (own_reader b (list_count l) parts symbols)).tree (list_count l) ≡ l

-- n bytes are written: the output and the work words, whose rest stays.
-- Ruled out: a writer that stores nothing; one that reports more than it stored, or clears what stands behind it
pub record Wrote (parts symbols l work out : List ℕ) (n : ℕ) (work' out' : List ℕ) : Type 0 where
  pub fits : n ≤ length out
  pub encodes : Encodes parts symbols l (take n out')
  pub behind : drop n out' ≡ drop n out
  pub size : length out' ≡ length out
  -- "Work words, one more than the trees, hold at i the bytes of trees i to the end"
  pub works : take (list_count l + 1) work' ≡ work_words (trees parts symbols l)
  pub works_behind : drop (list_count l + 1) work' ≡ drop (list_count l + 1) work
  pub works_size : length work' ≡ length work
