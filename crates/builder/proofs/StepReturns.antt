-- The verdict of a chain of rules, from the answers of its parts.
use Prim.Native.Nat.{ℕ}
use mathlib.Core.Bool.{Bool, true, false}
use mathlib.Core.Path.{◌≡◌, sym, ap, ◌∙◌}
use Rattle.std.specs.Prelude.{Result, Ok, Err, ⊤}
use Rattle.format.specs.Verdict.{Verdict, passed, rule, ◌and_then◌}
use Rattle.tree.specs.Refusal.{verdict_answer}
use Rattle.tree.specs.declared.refusal.Refusal.{Refusal}
use Rattle.tree.proofs.Answers.{answer_passed, answer_refused}

pub rule_holds : (b : Bool) (r n : ℕ) → b ≡ true → Ok tt ≡ verdict_answer (rule b r n)
unfolding verdict_answer
rule_holds b r n h = rw h

pub rule_fails : (b : Bool) (r n : ℕ) → b ≡ false → Err (record { number = r; tree = n }) ≡ verdict_answer (rule b r n)
unfolding verdict_answer
rule_fails b r n h = rw h

pub ruleset rule_cases = (rule_holds, rule_fails)

module _ (v w : Verdict) (z : Result ⊤ Refusal) (e : z ≡ verdict_answer v) where
  pub first_refused : (a : Refusal) → z ≡ Err a → Err a ≡ verdict_answer (v and_then w)
  unfolding verdict_answer
  first_refused a h = let n = answer_refused v a (sym e ∙ h) in rw n

  pub first_passed : z ≡ Ok tt → (y : Result ⊤ Refusal) → y ≡ verdict_answer w → y ≡ verdict_answer (v and_then w)
  first_passed h y q = let n = answer_passed v (sym e ∙ h) in rw n q

pub passed_is : (v : Verdict) → v ≡ passed → Ok tt ≡ verdict_answer v
unfolding verdict_answer
passed_is v e = rw e

-- an answer of one row, where that is the verdict
pub same : (z : Result ⊤ Refusal) (v w : Verdict) → z ≡ verdict_answer v → w ≡ v → z ≡ verdict_answer w
same z v w e f = e ∙ ap verdict_answer (sym f)
