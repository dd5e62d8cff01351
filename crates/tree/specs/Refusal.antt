-- The definitions' verdict and report as answers, case by case.
use Rattle.std.specs.Prelude.{ℕ, Result, Ok, Err, ⊤}
use Rattle.format.specs.Verdict as format
use Rattle.tree.specs.declared.refusal.Refusal.{Refusal}

unfoldable pub verdict_answer : format.Verdict → Result ⊤ Refusal
verdict_answer format.passed = Ok tt
verdict_answer (format.refused r n) = Err (record { number = r; tree = n })

unfoldable pub report_answer : format.Report → Result ℕ Refusal
report_answer (format.wrote size) = Ok size
report_answer (format.refusal r n) = Err (record { number = r; tree = n })
