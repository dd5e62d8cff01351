-- The answer of making tables, and the lent runs afterwards.
use Rattle.std.specs.Prelude.{ℕ, ◌≡◌, List, length, Result, Ok, Err}
use Rattle.format.specs.Word.{put}
use Rattle.format.specs.MakeTables as format
use Rattle.tree.specs.declared.refusal.Refusal.{Refusal}
use Rattle.tables.specs.declared.make.Made.{Made}

abbrev pub made_of : ℕ → ℕ → Result Made Refusal
made_of parts symbols = Ok (record { parts = parts; symbols = symbols })

-- what is reported, case by case: "a refusal gives its number and a tree number"
unfoldable pub tables_answer : format.TablesReport → Result Made Refusal
tables_answer (format.made parts symbols) = made_of parts symbols
tables_answer (format.refusal r n) = Err (record { number = r; tree = n })

-- the part table is made: r parts with the root's two, and counts, "none for the root's two"
pub record PartsMade (l : List ℕ) (r : ℕ) (w w' t t' : List ℕ) : Type 0 where
  pub number : r ≡ format.part_total l
  pub words : w' ≡ put w 0 (format.part_table l)
  pub tallies : t' ≡ put t 0 (format.part_counts l)

module _ (l a b c d : List ℕ) where
  -- the answer is that of the definition, and the four runs hold what it says: "parts, symbols and counts go to lent runs",
  -- and a refusal "changes nothing lent"
  pub record TablesDone (r : Result Made Refusal) (a' b' c' d' : List ℕ) : Type 0 where
    pub answer : r ≡ tables_answer (format.tables_report l (format.tables_verdict l (length a) (length b) (length c) (length d)))
    pub runs : format.TablesMade l a b c d (format.tables_verdict l (length a) (length b) (length c) (length d)) a' b' c' d'
