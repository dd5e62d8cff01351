-- One law for each return of the check of a bundle.
use Prim.Native.Nat.{ℕ, ◌-◌}
use mathlib.Core.Path.{◌≡◌, sym, ap, ◌∙◌}
use mathlib.Core.List.{List}
use lib.ListN.{length, take, drop}
use Rattle.std.specs.Prelude.{Option, Some, None, Result, ⊤}
use Rattle.format.specs.Verdict as format
use Rattle.format.specs.Check.{check}
use Rattle.format.specs.Buffer.{raw_shape, size_reader}
use Rattle.format.specs.Bundle as bundles
use Rattle.format.specs.Bundle.{bundle_at, bundle_check}
use Rattle.format.proofs.BundleLaw.{sizes_of, bundle_by_sizes}
use Rattle.tree.specs.Refusal.{verdict_answer}
use Rattle.bundle.specs.Answer.{read_answer}
use Rattle.bundle.specs.declared.read.Contents.{Contents}
use Rattle.bundle.proofs.Told.{rest_of, told, is_bad, start_inside}
use Rattle.tree.specs.declared.refusal.Refusal.{Refusal}

-- ---- check_bundle

same_check : (s s' : List ℕ) (k k' p p' y y' : ℕ) → s ≡ s' → k ≡ k' → p ≡ p' → y ≡ y' → check raw_shape (size_reader s k p y) ≡ check raw_shape (size_reader s' k' p' y')
same_check s s' k k' p p' y y' e f g h = rw (e, f, g, h)

module _ (b : List ℕ) (r : Option Contents) (e : r ≡ read_answer b (bundle_at b)) where
  pub bundle_one : (z : Result ⊤ Refusal) → r ≡ None → z ≡ verdict_answer (format.refused 1 0) → z ≡ verdict_answer (bundle_check b)
  bundle_one z q f = f ∙ ap verdict_answer (sym (ap bundles.check_of (is_bad b r e q)))

  pub bundle_checked : (x : Contents) (z : Result ⊤ Refusal) → r ≡ Some x
      → z ≡ verdict_answer (check raw_shape (size_reader (take (length b - x.start) (drop x.start b)) x.trees x.parts x.symbols))
      → z ≡ verdict_answer (bundle_check b)
  bundle_checked x z q f =
      let t = (told b r e x q).1 in
      let c = same_check _ _ _ _ _ _ _ _ (rest_of b x.start ∙ t.bytes) t.trees t.parts t.symbols in
      f ∙ ap verdict_answer (c ∙ sym (bundle_by_sizes b ∙ ap sizes_of t.reads))

pub ruleset check_cases = (start_inside, bundle_one, bundle_checked)
