-- Laws for callers: sizes that are asked for, and a resolved tree's value.
use Prim.Native.Nat.{ℕ, ◌+◌, ◌*◌, ◌≤◌, ◌<◌}
use mathlib.Core.Path.{◌≡◌}
use mathlib.Core.List.{List}
use lib.ListN.{get_or}
use Rattle.format.specs.Width.{part_size}
use Rattle.format.specs.Tables.{Mode}
use Rattle.format.specs.WordList.{word_of, raw_from, list_count}
use Rattle.format.specs.Writer.{raw_of}
use Rattle.places.specs.Places.{Resolved, Roomy}

-- tree n of the run that begins at tree `from`: its indices as they were found make the definitions' tree
pub resolved_at : (M : Mode) (l : List ℕ) (from m : ℕ) (opens closes syms : List ℕ) → Resolved M l from m opens closes syms → (j : ℕ) → j < m → from + j < list_count l
    → raw_from (get_or opens j 0) (get_or closes j 0) (get_or syms j 0) (word_of l (from + j)) ≡ raw_of M l (from + j)
resolved_at M l from m opens closes syms R j h k = R.at j h k

-- the same with the three indices and the tree's number as the code has read them
pub resolved_tree : (M : Mode) (l : List ℕ) (from m : ℕ) (opens closes syms : List ℕ) → Resolved M l from m opens closes syms → (j n o c y : ℕ) → o ≡ get_or opens j 0 → c ≡ get_or closes j 0
    → y ≡ get_or syms j 0 → n ≡ from + j → j < m → n < list_count l → raw_from o c y (word_of l n) ≡ raw_of M l n
resolved_tree M l from m opens closes syms R j n o c y eo ec ey en h k = rw (eo, ec, ey, en) (R.at j h (rw en at k))

pub roomy : (limit parts symbols part_slots symbol_slots : ℕ) → part_size * limit ≤ parts → limit ≤ 2097152 → symbols ≤ 1048576 → 0 < part_slots → 0 < symbol_slots → part_slots ≤ 1048576 → symbol_slots ≤ 1048576
    → Roomy limit parts symbols part_slots symbol_slots
roomy limit parts symbols part_slots symbol_slots i p y a b c d = record { below = i; of_parts = p; of_symbols = y; some_part = a; some_symbol = b; most_part = c; most_symbol = d }
