-- What the search does not find of the readers of one tree, with premises as the code's tests and calls give them.
use Prim.Native.Nat.{ℕ, ◌+◌, ◌*◌, ◌-◌, ◌/◌, ◌%◌, ◌<◌, ◌≤◌}
use mathlib.Core.Path.{◌≡◌, ap, ◌∙◌}
use mathlib.Core.List.{List}
use native.Mathlib.Omega.{arith}
use borrow.Author.Tests.{le-leb, lt-leb, eq-eqb, ne_eqb}
use lib.ListN.{length}
use Rattle.std.specs.Prelude.{Option, Some, Result, Ok, Err}
use Rattle.std.specs.Result.{result_ok}
use Rattle.format.specs.Word.{byte_at, word_at}
use Rattle.format.specs.Span.{span, span_at, symbol_at}
use Rattle.format.specs.Reader.{got}
use Rattle.format.specs.Tree.{punct, ident_of, closed101, controlled, after_span, tree_at}
use Rattle.pack.specs.Answer.{span_of, span_answer}
use Rattle.pack.specs.declared.span.PackedSpan.{PackedSpan}
use Rattle.pack.specs.declared.span.SpanAt.{SpanAt}
use Rattle.pack.proofs.Use.{span_cut, span_read, span_inside, symbol_cut, symbol_read}
use Rattle.tree.specs.Raw.{RawAt, raw_of, raw_answer, in_range}
use Rattle.tree.specs.declared.raw.RawTree.TheVariants.{Subtree}

-- what a call has found, from what it promises of the answer with a row in the place of none
pub found_of_ok : {A : Type 0} (r : Option A) (o : Result A ℕ) → r ≡ result_ok o → (y : A) → o ≡ Ok y → r ≡ Some y
found_of_ok r o e y q = e ∙ ap result_ok q

-- the close span of a 101
module _ (b : List ℕ) (q c : ℕ) (s : PackedSpan) where
  module _ (r : Option SpanAt) (e : r ≡ span_answer (span_at b (q + 1))) where
    module _ (y : SpanAt) (k : r ≡ Some y) where
      pub got_101 : (w v : ℕ) (a : Result RawAt ℕ) → 8 ≤ length b - y.next → w ≡ word_at b y.next → v ≡ word_at b (y.next + 4)
          → a ≡ raw_answer (in_range (got (raw_of (Subtree (record { opening = s; closing = y.span; len = record { 0 = w }; kind = c / 8 }))) (y.next + 8) v))
          → a ≡ raw_answer (in_range (closed101 b (span_of s) c (span_at b (q + 1))))
      unfolding raw_of
      got_101 w v a h e₁ e₂ p =
          let z : span_at b (q + 1) ≡ span y.extra (span_of y.span) y.next = span_read b (q + 1) r e y k in
          let g : y.next + 8 ≤ length b = omega arith in
          p ∙ rw z (simp (le-leb _ _ g, ← e₁, ← e₂))

module _ (b : List ℕ) (at : ℕ) (r : Option SpanAt) (e : r ≡ span_answer (span_at b at)) where
  module _ (y : SpanAt) (k : r ≡ Some y) where
    pub tree_bare : length b - y.next < 1 → Err 7 ≡ raw_answer (in_range (tree_at b at))
    unfolding raw_answer in_range tree_at after_span
    tree_bare h =
        let z : span_at b at ≡ span y.extra (span_of y.span) y.next = span_read b at r e y k in
        let g : length b < y.next + 1 = omega arith in
        rw z (simp (lt-leb _ _ g))

    module _ (h : 1 ≤ length b - y.next) (a : Result RawAt ℕ) where
      pub tree_ascii : (x : ℕ) → x ≡ byte_at b y.next → y.extra % 2 ≡ 1 → a ≡ raw_answer (in_range (got (punct (span_of y.span) (x / 2) (x % 2 + 2 * (y.extra / 2))) (y.next + 1) 0))
          → a ≡ raw_answer (in_range (tree_at b at))
      unfolding tree_at after_span
      tree_ascii x f d p =
          let z : span_at b at ≡ span y.extra (span_of y.span) y.next = span_read b at r e y k in
          let g : y.next + 1 ≤ length b = omega arith in
          p ∙ rw z (simp (le-leb _ _ g, eq-eqb _ _ d, ← f))

      module _ (d : y.extra % 2 ≡ 1 → ⊥) where
        pub tree_ident : y.extra / 2 ≡ 1 → a ≡ raw_answer (in_range (ident_of (span_of y.span) (symbol_at b y.next))) → a ≡ raw_answer (in_range (tree_at b at))
        unfolding tree_at after_span
        tree_ident j p =
            let z : span_at b at ≡ span y.extra (span_of y.span) y.next = span_read b at r e y k in
            let g : y.next + 1 ≤ length b = omega arith in
            p ∙ rw z (simp (le-leb _ _ g, ne_eqb _ _ d, eq-eqb _ _ j))

        pub tree_control : (y.extra / 2 ≡ 1 → ⊥) → (x : ℕ) → x ≡ byte_at b y.next → a ≡ raw_answer (in_range (controlled b (span_of y.span) y.next x)) → a ≡ raw_answer (in_range (tree_at b at))
        unfolding tree_at after_span
        tree_control j x f p =
            let z : span_at b at ≡ span y.extra (span_of y.span) y.next = span_read b at r e y k in
            let g : y.next + 1 ≤ length b = omega arith in
            p ∙ rw z (simp (le-leb _ _ g, ne_eqb _ _ d, ne_eqb _ _ j, ← f))

pub ruleset form_cases = (found_of_ok, got_101, tree_bare, tree_ascii, tree_ident, tree_control, span_inside)
