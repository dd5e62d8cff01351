-- One law for each return of `span_at`, `is_loose`, `decode_span`, with premises as the code's tests and calls give them.
use Prim.Native.Nat.{ℕ, ◌+◌, ◌*◌, ◌-◌, ◌/◌, ◌%◌, ◌<◌, ◌≤◌}
use mathlib.Core.Bool.{Bool, true, false}
use mathlib.Core.Path.{◌≡◌, sym, ap, ◌∙◌}
use mathlib.Core.List.{List}
use native.Mathlib.Omega.{arith}
use native.Mathlib.Nat.{add-zero}
use borrow.Author.Tests.{lt-ltb, le-ltb, le-leb, lt-leb, eq-eqb, ne_eqb}
use lib.Dec.{ltb}
use lib.ListN.{length}
use Rattle.std.specs.Prelude.{Option, Some, None}
use Rattle.format.specs.Word.{word_at}
use Rattle.format.specs.Span.{Span, span_at, span₁}
use Rattle.format.specs.Write.{span_bytes}
use Rattle.format.specs.Pack.{span_form}
use Rattle.pack.specs.Answer.{span_of, span_answer, decoded_answer, span_here, span_above}
use Rattle.pack.specs.declared.span.SpanAt.{SpanAt}
use Rattle.pack.proofs.Sizes.{form_least}
use Rattle.pack.proofs.Use.{span_cut, span_read, span_before, span_loose}

above_none : (w : ℕ) → span_above w (record { index = 0; start = 0; len = 0 }) ≡ span₁ w
above_none w = simp add-zero

module _ (b : List ℕ) (at r : ℕ) (e : r ≡ length b - at) where
  pub short_1 : r < 4 → None ≡ span_answer (span_at b at)
  unfolding span_answer span_at
  short_1 h = let k : length b < at + 4 = omega arith in simp (lt-leb _ _ k)

  module _ (w : ℕ) (e₁ : w ≡ word_at b at) where
    pub got_1 : (y : SpanAt) → y ≡ span_here w (span_above w (record { index = 0; start = 0; len = 0 })) (at + 4) → 4 ≤ r → w / 16384 % 2 ≡ 0 → Some y ≡ span_answer (span_at b at)
    unfolding span_answer span_at
    got_1 y q h z = let k : at + 4 ≤ length b = omega arith in simp (q ∙ ap (λ (t : Span). span_here w t (at + 4)) (above_none w), le-leb _ _ k, ← e₁, eq-eqb _ _ z)

    module _ (x : w / 16384 % 2 ≡ 0 → ⊥) where
      pub short_2 : 4 ≤ r → r < 8 → None ≡ span_answer (span_at b at)
      unfolding span_answer span_at
      short_2 h j =
          let k : at + 4 ≤ length b = omega arith in
          let k₂ : length b < at + 8 = omega arith in
          simp (le-leb _ _ k, ← e₁, ne_eqb _ _ x, lt-leb _ _ k₂)

      module _ (v : ℕ) (e₂ : v ≡ word_at b (at + 4)) (h : 8 ≤ r) where
        pub got_2 : (y : SpanAt) → y ≡ span_here w (span_above w (record { index = v / 2 % 2048; start = v / 4194304; len = v / 4096 % 1024 })) (at + 8) → v % 2 ≡ 0 → Some y ≡ span_answer (span_at b at)
        unfolding span_answer span_at
        got_2 y q z =
            let k : at + 4 ≤ length b = omega arith in
            let k₂ : at + 8 ≤ length b = omega arith in
            simp (q, le-leb _ _ k, ← e₁, ne_eqb _ _ x, le-leb _ _ k₂, ← e₂, eq-eqb _ _ z)

        module _ (z : v % 2 ≡ 0 → ⊥) where
          pub short_3 : r < 12 → None ≡ span_answer (span_at b at)
          unfolding span_answer span_at
          short_3 j =
              let k : at + 4 ≤ length b = omega arith in
              let k₂ : at + 8 ≤ length b = omega arith in
              let k₃ : length b < at + 12 = omega arith in
              simp (le-leb _ _ k, ← e₁, ne_eqb _ _ x, le-leb _ _ k₂, ← e₂, ne_eqb _ _ z, lt-leb _ _ k₃)

          pub got_3 : (u : ℕ) → u ≡ word_at b (at + 8) → (y : SpanAt) → y ≡ span_here w (span_above w (record { index = u % 16777216; start = v / 131072; len = u / 16777216 + 256 * (v / 2 % 65536) })) (at + 12) → 12 ≤ r → Some y ≡ span_answer (span_at b at)
          unfolding span_answer span_at
          got_3 u e₃ y q j =
              let k : at + 4 ≤ length b = omega arith in
              let k₂ : at + 8 ≤ length b = omega arith in
              let k₃ : at + 12 ≤ length b = omega arith in
              simp (q, le-leb _ _ k, ← e₁, ne_eqb _ _ x, le-leb _ _ k₂, ← e₂, ne_eqb _ _ z, le-leb _ _ k₃, ← e₃)

pub ruleset span_at_cases = (short_1, got_1, short_2, got_2, short_3, got_3)

-- ---- more bytes than needed

module _ (s : Span) (n : ℕ) where
  pub loose_least : n ≤ 4 → false ≡ ltb (length (span_bytes 0 s)) n
  loose_least h = let k = form_least false 0 s in sym (le-ltb (length (span_bytes 0 s)) n (omega arith))

  module _ (z : ℕ) (e : z ≡ length (span_form false 0 s)) where
    pub loose_fits : n ≤ z → false ≡ ltb (length (span_bytes 0 s)) n
    loose_fits h = sym (le-ltb (length (span_bytes 0 s)) n (omega arith))

    pub loose_over : z < n → true ≡ ltb (length (span_bytes 0 s)) n
    loose_over h = sym (lt-ltb (length (span_bytes 0 s)) n (omega arith))

module _ (b : List ℕ) (at : ℕ) (r : Option SpanAt) (e : r ≡ span_answer (span_at b at)) where
  pub decoded_short : r ≡ None → None ≡ decoded_answer at (span_at b at)
  unfolding decoded_answer
  decoded_short k = sym (ap (decoded_answer at) (span_cut b at r e k))

  module _ (y : SpanAt) (k : r ≡ Some y) where
    pub decoded_read : (x : Bool) → x ≡ ltb (length (span_bytes 0 (span_of y.span))) (y.next - at)
        → Some (record { span = y.span; extra = y.extra; next = y.next; loose = x }) ≡ decoded_answer at (span_at b at)
    unfolding decoded_answer
    decoded_read x f =
        ap (λ (u : Bool). Some (record { span = y.span; extra = y.extra; next = y.next; loose = u })) (span_loose b at r e y k x f)
        ∙ sym (ap (decoded_answer at) (span_read b at r e y k))

pub ruleset decode_span_cases = (loose_least, loose_fits, loose_over, decoded_short, span_before, decoded_read)
