-- A list's own tables in work words, and its tables and bytes in the outputs.
use Rattle.std.specs.Prelude.{ℕ, ◌*◌, ◌≤◌, ◌≡◌, List, length, take, drop, Result}
use Rattle.format.specs.Verdict.{Verdict, contents, rule}
use Rattle.format.specs.Word.{put}
use Rattle.format.specs.Width.{part_size}
use Rattle.format.specs.WordList.{list_count}
use Rattle.format.specs.MakeTables.{part_table, symbol_table, symbol_counts, part_total}
use Rattle.format.specs.Replace.{fresh_bytes, out_fits, report_of}
use Rattle.format.specs.Unpack.{table_work, count_work}
use Rattle.tree.specs.declared.refusal.Refusal.{Refusal}
use Rattle.replace.specs.Report.{replace_answer}
use Rattle.replace.specs.declared.report.Sizes.{Sizes}
use Rattle.replace.specs.declared.fresh.Counted.{Counted}

-- the symbols of k trees stand behind room for two parts a tree
abbrev pub symbols_at : ℕ → ℕ
symbols_at k = 2 * part_size * k

-- the symbol table of l from a place of the work words on
pub record SymbolsMade (l : List ℕ) (at r : ℕ) (t t' c c' : List ℕ) : Type 0 where
  pub number : r ≡ length (symbol_table l)
  pub words : t' ≡ put t at (symbol_table l)
  pub tallies : c' ≡ put c 0 (symbol_counts l)

-- work words hold both tables of l
pub record Held (l : List ℕ) (r : Counted) (t : List ℕ) : Type 0 where
  pub room : table_work (list_count l) ≤ length t
  pub parts : r.parts ≡ part_total l
  pub symbols : r.symbols ≡ length (symbol_table l)
  pub part_words : take (part_size * r.parts) t ≡ part_table l
  pub symbol_words : take r.symbols (drop (symbols_at (list_count l)) t) ≡ symbol_table l

-- both are made
pub record Tabled (l : List ℕ) (r : Counted) (t t' c c' : List ℕ) : Type 0 where
  pub held : Held l r t'
  pub tables_behind : drop (table_work (list_count l)) t' ≡ drop (table_work (list_count l)) t
  pub counts_behind : drop (count_work (list_count l)) c' ≡ drop (count_work (list_count l)) c

module _ (l x y z : List ℕ) where
  -- row 6 for the outputs
  abbrev pub out_row : Verdict
  out_row = rule (out_fits l x y z) 6 0

  -- bytes, part words and symbols of l
  pub record Outputs (r : Result Sizes Refusal) (x' y' z' : List ℕ) : Type 0 where
    pub answer : r ≡ replace_answer (report_of l out_row)
    pub bytes : x' ≡ contents out_row x (put x 0 (fresh_bytes l))
    pub parts : y' ≡ contents out_row y (put y 0 (part_table l))
    pub symbols : z' ≡ contents out_row z (put z 0 (symbol_table l))

  -- … and the counts' work words
  pub record Put (r : Result Sizes Refusal) (c c' x' y' z' : List ℕ) : Type 0 where
    pub outputs : Outputs r x' y' z'
    pub counts_behind : drop (count_work (list_count l)) c' ≡ drop (count_work (list_count l)) c
