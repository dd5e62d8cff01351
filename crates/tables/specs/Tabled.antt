-- What the lent runs hold where `compute_span_frequencies_and_symbols` answers that it made so many parts and symbols.
use Rattle.std.specs.Prelude.{ℕ, ◌*◌, ◌-◌, ◌≡◌, List, length, take, drop}
use Rattle.format.specs.Verdict.{passed}
use Rattle.format.specs.Width.{part_size}
use Rattle.format.specs.WordList.{list_rows}
use Rattle.format.specs.Writer.{list_verdict}
use Rattle.format.specs.MakeTables.{part_table, part_counts, symbol_table, symbol_counts, part_total}

-- p parts, the root's two among them, and s symbols: each run begins with its table, and the rest of it stays.
-- Ruled out: a table that lacks a part of the list, which row 5 would refuse; an invented count
pub record Tabled (l a b c d : List ℕ) (p s : ℕ) (a' b' c' d' : List ℕ) : Type 0 where
  pub part_number : p ≡ part_total l
  pub symbol_number : s ≡ length (symbol_table l)
  pub parts : take (part_size * p) a' ≡ part_table l
  pub part_tallies : take (p - 2) b' ≡ part_counts l
  pub symbols : take s c' ≡ symbol_table l
  pub symbol_tallies : take s d' ≡ symbol_counts l
  pub parts_behind : drop (part_size * p) a' ≡ drop (part_size * p) a
  pub part_tallies_behind : drop (p - 2) b' ≡ drop (p - 2) b
  pub symbols_behind : drop s c' ≡ drop s c
  pub symbol_tallies_behind : drop s d' ≡ drop s d
  -- rows 1 to 4 are silent on the list …
  pub rows : list_rows l ≡ passed
  -- … and rows 1 to 5 of the writer over the tables that were made: row 6 is the only one left
  pub writes : list_verdict (take (part_size * p) a') (take s c') l ≡ passed
