-- What whole lists leave in lent runs, and the reply in one number.
use Rattle.std.specs.Prelude.{ℕ, ◌≡◌, List, length}
use Rattle.format.specs.MakeTables.{tables_report, tables_verdict, TablesMade}
use Rattle.format.specs.Writer.{writer_report, work_after, out_after}
use Rattle.tree.specs.Refusal.{report_answer}
use Rattle.tables.specs.Made.{tables_answer}
use Rattle.export.specs.Replies.{report_code, tables_code}

pub record TablesStored (l a b c d : List ℕ) (r : ℕ) (a' b' c' d' : List ℕ) : Type 0 where
  pub reply : r ≡ tables_code (tables_answer (tables_report l (tables_verdict l (length a) (length b) (length c) (length d))))
  pub runs : TablesMade l a b c d (tables_verdict l (length a) (length b) (length c) (length d)) a' b' c' d'

pub record ListStored (parts symbols l work out : List ℕ) (r : ℕ) (work' out' : List ℕ) : Type 0 where
  pub reply : r ≡ report_code (report_answer (writer_report parts symbols l work out))
  pub words : work' ≡ work_after parts symbols l work out
  pub bytes : out' ≡ out_after parts symbols l work out
