-- The definitions' report as an answer, case by case.
use Rattle.std.specs.Prelude.{ℕ, Result, Ok, Err}
use Rattle.format.specs.Replace as format
use Rattle.tree.specs.declared.refusal.Refusal.{Refusal}
use Rattle.replace.specs.declared.report.Sizes.{Sizes}

-- so many bytes, parts and symbols
abbrev pub told_sizes : ℕ → ℕ → ℕ → Result Sizes Refusal
told_sizes bytes parts symbols = Ok (record { bytes = bytes; parts = parts; symbols = symbols })

unfoldable pub replace_answer : format.ReplaceReport → Result Sizes Refusal
replace_answer (format.replaced bytes parts symbols) = told_sizes bytes parts symbols
replace_answer (format.refusal r n) = Err (record { number = r; tree = n })
