-- One law for each return of a list's reply in one number.
use Prim.Native.Nat.{ℕ}
use mathlib.Core.Path.{◌≡◌, ap, ◌∙◌}
use mathlib.Core.List.{List}
use Rattle.std.specs.Prelude.{Result}
use Rattle.tree.specs.declared.refusal.Refusal.{Refusal}
use Rattle.tables.specs.Made.{TablesDone}
use Rattle.tables.specs.declared.make.Made.{Made}
use Rattle.writer.specs.Written.{Written}
use Rattle.export.specs.Replies.{report_code, tables_code}
use Rattle.export.specs.Lists.{TablesStored, ListStored}

pub tables_stored : (l a b c d : List ℕ) (v : Result Made Refusal) (r : ℕ) (a' b' c' d' : List ℕ) → TablesDone l a b c d v a' b' c' d' → r ≡ tables_code v → TablesStored l a b c d r a' b' c' d'
tables_stored l a b c d v r a' b' c' d' t e = record { reply = e ∙ ap tables_code t.answer; runs = t.runs }

pub list_stored : (parts symbols l work out : List ℕ) (v : Result ℕ Refusal) (r : ℕ) (work' out' : List ℕ) → Written parts symbols l work out v work' out' → r ≡ report_code v → ListStored parts symbols l work out r work' out'
list_stored parts symbols l work out v r work' out' t e = record { reply = e ∙ ap report_code t.answer; words = t.works; bytes = t.outs }

pub ruleset list_cases = (tables_stored, list_stored)
