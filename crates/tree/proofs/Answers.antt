-- What a verdict or a report given as an answer says of the verdict.
use Prim.Native.Nat.{ℕ}
use mathlib.Core.Path.{◌≡◌, refl, ap}
use Rattle.std.specs.Prelude.{Result, Ok, Err}
use Rattle.format.specs.Verdict.{Verdict, passed, refused, report}
use Rattle.tree.specs.Refusal.{verdict_answer, report_answer}
use Rattle.tree.specs.declared.refusal.Refusal.{Refusal}

-- ---- a verdict

same_refusal : {A : Type 0} (x y : Refusal) → ◌≡◌ {A = Result A Refusal} (Err x) (Err y) → x ≡ y
same_refusal x y e = cc

pub answer_passed : (v : Verdict) → verdict_answer v ≡ Ok tt → v ≡ passed
unfolding verdict_answer
answer_passed passed e = refl
answer_passed (refused r n) e = cc

pub answer_refused : (v : Verdict) (x : Refusal) → verdict_answer v ≡ Err x → v ≡ refused x.number x.tree
unfolding verdict_answer
answer_refused passed x e = cc
answer_refused (refused r n) x e = ap (λ (y : Refusal). refused y.number y.tree) (same_refusal _ x e)

-- ---- a report

same_size : (m n : ℕ) → ◌≡◌ {A = Result ℕ Refusal} (Ok m) (Ok n) → m ≡ n
same_size m n e = cc

pub report_wrote : (v : Verdict) (size n : ℕ) → report_answer (report v size) ≡ Ok n → (v ≡ passed) × (size ≡ n)
unfolding report_answer
report_wrote passed size n e = (refl, same_size size n e)
report_wrote (refused r t) size n e = cc

pub report_refused : (v : Verdict) (size : ℕ) (x : Refusal) → report_answer (report v size) ≡ Err x → v ≡ refused x.number x.tree
unfolding report_answer
report_refused passed size x e = cc
report_refused (refused r t) size x e = ap (λ (y : Refusal). refused y.number y.tree) (same_refusal _ x e)
