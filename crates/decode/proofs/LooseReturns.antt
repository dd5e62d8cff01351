-- One law for each return of the functions that report on the tree at a place.
use Prim.Native.Nat.{ℕ, ◌-◌, ◌/◌, ◌%◌}
use mathlib.Core.Bool.{Bool}
use mathlib.Core.Path.{◌≡◌, ◌∙◌}
use mathlib.Core.List.{List}
use borrow.Author.Tests.{ne_eqb}
use lib.Dec.{ltb}
use lib.ListN.{length}
use Rattle.std.specs.Prelude.{Option, Some}
use Rattle.format.specs.Word.{byte_at}
use Rattle.format.specs.Span.{span, span_at}
use Rattle.format.specs.Write.{span_bytes}
use Rattle.format.specs.Loose.{Loose, is_loose, loose_by, loose_after, loose_at}
use Rattle.pack.specs.Answer.{span_of, span_answer}
use Rattle.pack.specs.declared.span.SpanAt.{SpanAt}
use Rattle.pack.proofs.Use.{span_cut, span_read, span_before, span_inside, span_loose}

-- ---- the tree at a place

module _ (b : List ℕ) (at : ℕ) (r : Option SpanAt) (e : r ≡ span_answer (span_at b at)) (l : Loose) where
  module _ (y : SpanAt) (k : r ≡ Some y) (x : Bool) (f : x ≡ ltb (length (span_bytes 0 (span_of y.span))) (y.next - at)) where
    here : span_at b at ≡ span y.extra (span_of y.span) y.next
    here = span_read b at r e y k

    first : x ≡ is_loose at (span_of y.span) y.next
    first = span_loose b at r e y k x f

    module _ (d : y.extra % 2 ≡ 1 → ⊥) where
      pub at_control : (y.extra / 2 ≡ 1 → ⊥) → (c : ℕ) → c ≡ byte_at b y.next → l ≡ loose_by b x y.next c → l ≡ loose_at b at
      unfolding loose_at loose_after
      at_control j c g q = q ∙ rw here (simp (first, ne_eqb _ _ d, ne_eqb _ _ j, g))

pub ruleset loose_at_cases = (span_inside, at_control)
