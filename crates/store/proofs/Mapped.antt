-- An answer told by way of its numbers.
use Prim.Native.Nat.{ℕ}
use mathlib.Core.Path.{◌≡◌, ap, ◌∙◌}
use mathlib.Core.List.{List}
use Rattle.std.specs.Prelude.{Result, Ok, Err}
use Rattle.std.specs.Result.{MatchResult, IsOkAnd}
use Rattle.tree.specs.declared.refusal.Refusal.{Refusal}
use Rattle.store.specs.Told.{Told}

pub told_mapped : {A : Type 0} (numbers : A → List ℕ) (blanks : ℕ) (a : Result A Refusal) (m : Result (List ℕ) Refusal) → MatchResult a (λ x. m ≡ Ok (numbers x)) (λ e. m ≡ Err e)
    → (r : ℕ) (told' : List ℕ) → Told {A = List ℕ} (λ w. w) blanks m r told' → Told {A = A} numbers blanks a r told'
told_mapped numbers blanks (Ok x) m e r told' T = record { number = T.number ∙ rw e; more = T.more ∙ rw e }
told_mapped numbers blanks (Err x) m e r told' T = record { number = T.number ∙ rw e; more = T.more ∙ rw e }

pub ok_is : {A E : Type 0} (m : Result A E) (P : A → Type 0) (z : A) → ((y : A) → P y → y ≡ z) → IsOkAnd m P → m ≡ Ok z
ok_is (Ok y) P z f h = ap Ok (f y h)
ok_is (Err e) P z f h = absurd h
