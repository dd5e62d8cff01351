-- One law for each return of the host's number.
use mathlib.Core.Path.{◌≡◌, sym, ap, ◌∙◌}
use Rattle.std.specs.Prelude.{⊤, Result, Ok, Err}
use Rattle.format.specs.Verdict as format
use Rattle.format.specs.Bundle.{number_of}
use Rattle.tree.specs.Refusal.{verdict_answer}
use Rattle.tree.proofs.Answers.{answer_passed, answer_refused}
use Rattle.tree.specs.declared.refusal.Refusal.{Refusal}

module _ (v : format.Verdict) (z : Result ⊤ Refusal) (e : z ≡ verdict_answer v) where
  pub number_passed : z ≡ Ok tt → 0 ≡ number_of v
  number_passed q = sym (ap number_of (answer_passed v (sym e ∙ q)))

  pub number_refused : (x : Refusal) → z ≡ Err x → x.number ≡ number_of v
  number_refused x q = sym (ap number_of (answer_refused v x (sym e ∙ q)))
