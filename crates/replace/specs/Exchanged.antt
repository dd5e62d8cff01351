-- What the outputs hold where `set_token` answers that it wrote so many bytes, parts and symbols.
use Rattle.std.specs.Prelude.{ℕ, ◌*◌, ◌≡◌, List, take, drop, Result, Ok, ⊤}
use Rattle.format.specs.Width.{part_size}
use Rattle.format.specs.Buffer.{own_reader, buffer_check}
use Rattle.format.specs.MakeTables.{part_table, symbol_table}
use Rattle.format.specs.Builder.{leaf_words}
use Rattle.format.specs.Replace.{fresh_bytes, exchanged, LeafOnly}
use Rattle.format.specs.Unpack.{list_of}
use Rattle.tree.specs.Refusal.{verdict_answer}
use Rattle.tree.specs.declared.refusal.Refusal.{Refusal}

-- tree n of the list of b gives way to the leaf of words w; x, y, z are the outputs.
-- Ruled out: a buffer over the old tables; an entry that no tree uses; a byte behind those that are told
module _ (b : List ℕ) (k : ℕ) (parts symbols : List ℕ) (n : ℕ) (w x y z : List ℕ) (bytes ps ss : ℕ) (x' y' z' : List ℕ) where
  pub record Exchanged : Type 0 where
    -- "the written form of that list .. over tables made afresh"
    pub buffer : take bytes x' ≡ fresh_bytes (exchanged b k parts symbols n w)
    pub part_words : take (part_size * ps) y' ≡ part_table (exchanged b k parts symbols n w)
    pub symbol_words : take ss z' ≡ symbol_table (exchanged b k parts symbols n w)
    -- read back: every other tree as before, and all of the list
    pub only : LeafOnly (own_reader b k parts symbols) (own_reader (take bytes x') k (take (part_size * ps) y') (take ss z')) n (leaf_words w)
    pub list : list_of (take bytes x') k (take (part_size * ps) y') (take ss z') ≡ exchanged b k parts symbols n w
    -- what `check_buffer` answers on them
    pub checks : (r : Result ⊤ Refusal) → r ≡ verdict_answer (buffer_check (take bytes x') k (take (part_size * ps) y') (take ss z')) → r ≡ Ok tt
    -- what stands behind stays
    pub buffer_behind : drop bytes x' ≡ drop bytes x
    pub parts_behind : drop (part_size * ps) y' ≡ drop (part_size * ps) y
    pub symbols_behind : drop ss z' ≡ drop ss z
