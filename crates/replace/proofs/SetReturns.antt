-- One law for each return of the functions of src/set_token.rt, with premises as the code's tests and calls give them.
use Prim.Native.Nat.{ℕ, ◌*◌, ◌-◌}
use mathlib.Core.Path.{◌≡◌, ◌∙◌, subst}
use mathlib.Core.List.{List}
use lib.ListN.{length, take, drop}
use Rattle.std.proofs.Common.{Result, Ok, Err}
use Rattle.format.specs.Width.{tree_size}
use Rattle.format.specs.Replace.{exchanged, replace_out}
use Rattle.format.proofs.Kept.{kept}
use Rattle.tree.specs.declared.refusal.Refusal.{Refusal}
use Rattle.replace.specs.Report.{replace_answer}
use Rattle.replace.specs.Fresh.{out_row, Outputs, Put}
use Rattle.replace.specs.Prepared.{PreparedIn}
use Rattle.replace.specs.Replaced.{Replaced}
use Rattle.replace.specs.declared.fresh.Counted.{Counted}
use Rattle.replace.specs.declared.report.Sizes.{Sizes}
use Rattle.replace.proofs.PrepareReturns.{why_refused, work_passed, there_is, left_then, there_cases}

module _ (b : List ℕ) (k : ℕ) (parts symbols : List ℕ) (n : ℕ) (w a c d : List ℕ) (q : Result Counted Refusal) (a₁ c₁ d₁ : List ℕ) (P : PreparedIn b k parts symbols n w a c d q a₁ c₁ d₁) (x y z : List ℕ) where
  pub none_replaced : (why : Refusal) → q ≡ Err why → Replaced b k parts symbols n w a c d x y z (Err why) a₁ c₁ d₁ x y z
  unfolding replace_out replace_answer
  none_replaced why e =
      let f = why_refused b k parts symbols n w a c d q a₁ c₁ d₁ P why e in
      record { answer = rw f; runs = record { bytes = rw f; part_words = rw f; symbol_words = rw f; left = P.left } }

  module _ (t : Counted) (e : q ≡ Ok t) (p : ℕ) (j : p ≡ k) where
    abbrev new : List ℕ
    new = exchanged b k parts symbols n w

    verdict_is : replace_out b k parts symbols n w (length a) (length c) (length d) x y z ≡ out_row new x y z
    unfolding replace_out
    verdict_is = let v = work_passed b k parts symbols n w a c d q a₁ c₁ d₁ P t e in rw v

    pub all_replaced : (m : List ℕ) → m ≡ take (tree_size * p - 0) (drop 0 a₁) → (r : Result Sizes Refusal) (d₂ x' y' z' : List ℕ) → Put m x y z r d₁ d₂ x' y' z'
        → Replaced b k parts symbols n w a c d x y z r a₁ c₁ d₂ x' y' z'
    all_replaced m f r d₂ x' y' z' F =
        let i = f ∙ there_is b k parts symbols n w a c d q a₁ c₁ d₁ P t e p j in
        let O : Outputs new x y z r x' y' z' = subst (λ (m : List ℕ). Outputs m x y z r x' y' z') i F.outputs in
        let v = verdict_is in
        record {
          answer = O.answer ∙ rw v;
          runs = record {
            bytes = O.bytes ∙ rw v;
            part_words = O.parts ∙ rw v;
            symbol_words = O.symbols ∙ rw v;
            left = left_then b k parts symbols n w a c d q a₁ c₁ d₁ P t e p j m f d₂ F.counts_behind;
          };
        }

pub ruleset set_cases = (none_replaced, all_replaced, there_cases, kept)

-- ---- a leaf by value

pub leaf_given : (b : List ℕ) (k : ℕ) (parts symbols : List ℕ) (n : ℕ) (w a c d x y z : List ℕ) (r : Result Sizes Refusal) (a' c' d' x' y' z' v : List ℕ) → v ≡ w
    → Replaced b k parts symbols n v a c d x y z r a' c' d' x' y' z' → Replaced b k parts symbols n w a c d x y z r a' c' d' x' y' z'
leaf_given b k parts symbols n w a c d x y z r a' c' d' x' y' z' v e R =
    subst (λ (u : List ℕ). Replaced b k parts symbols n u a c d x y z r a' c' d' x' y' z') e R

pub ruleset leaf_cases = (leaf_given, kept)
