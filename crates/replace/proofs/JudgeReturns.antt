-- One law for each return of the functions of src/judge.rt, with premises as the code's tests and calls give them.
use Prim.Native.Nat.{ℕ}
use mathlib.Core.Bool.{Bool, true, false, not}
use mathlib.Core.Path.{◌≡◌, refl, sym, ap, ◌∙◌}
use mathlib.Core.List.{List}
use borrow.Author.Tests.{not-true, not-false}
use Rattle.std.specs.Prelude.{Result, Ok, Err, ⊤}
use Rattle.format.specs.Verdict.{passed, refused}
use Rattle.format.specs.Buffer.{buffer_check}
use Rattle.format.specs.Builder.{leaf_fits}
use Rattle.format.specs.Replace.{is_leaf, replace_verdict}
use Rattle.tree.specs.Refusal.{verdict_answer}
use Rattle.tree.specs.declared.refusal.Refusal.{Refusal}
use Rattle.tree.proofs.Answers.{answer_passed, answer_refused}

module _ (b : List ℕ) (k : ℕ) (parts symbols : List ℕ) (n : ℕ) (w : List ℕ) where
  module _ (ok : buffer_check b k parts symbols ≡ passed) (x : Bool) (e : x ≡ is_leaf b k parts symbols n) where
    pub number_10 : not x ≡ true → (r : Result ⊤ Refusal) → r ≡ verdict_answer (refused 10 n) → r ≡ verdict_answer (replace_verdict b k parts symbols n w)
    unfolding replace_verdict
    number_10 f r q = let i : is_leaf b k parts symbols n ≡ false = sym e ∙ not-true x f in q ∙ simp (ok, i)

    module _ (f : not x ≡ false) (y : Bool) (d : y ≡ leaf_fits w) where
      leaf_is : is_leaf b k parts symbols n ≡ true
      leaf_is = sym e ∙ not-false x f

      pub leaf_2 : not y ≡ true → (r : Result ⊤ Refusal) → r ≡ verdict_answer (refused 2 n) → r ≡ verdict_answer (replace_verdict b k parts symbols n w)
      unfolding replace_verdict
      leaf_2 g r q = let i = leaf_is in let j : leaf_fits w ≡ false = sym d ∙ not-true y g in q ∙ simp (ok, i, j)

      pub leaf_passed : not y ≡ false → Ok tt ≡ verdict_answer (replace_verdict b k parts symbols n w)
      unfolding replace_verdict verdict_answer
      leaf_passed g = let i = leaf_is in let j : leaf_fits w ≡ true = sym d ∙ not-false y g in simp (ok, i, j)

  pub check_passed : (r : Result ⊤ Refusal) → r ≡ verdict_answer (buffer_check b k parts symbols) → r ≡ Ok tt → buffer_check b k parts symbols ≡ passed
  check_passed r e q = answer_passed (buffer_check b k parts symbols) (sym e ∙ q)

  pub check_refused : (r : Result ⊤ Refusal) (why : Refusal) → r ≡ verdict_answer (buffer_check b k parts symbols) → r ≡ Err why
      → Err why ≡ verdict_answer (replace_verdict b k parts symbols n w)
  unfolding replace_verdict
  check_refused r why e q =
      let v = answer_refused (buffer_check b k parts symbols) why (sym e ∙ q) in
      sym q ∙ e ∙ ap verdict_answer (v ∙ rw v)

pub ruleset judge_cases = (number_10, leaf_2, leaf_passed, check_passed, check_refused)
