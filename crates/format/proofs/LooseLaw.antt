-- Which spans are loose, by limits; a span that the writer made never is.
use Prim.Native.Nat.{ℕ, ◌+◌, ◌-◌, ◌<◌, ◌≤◌}
use mathlib.Core.Bool.{Bool, true, false}
use mathlib.Core.Path.{◌≡◌, refl, sym, ap, ◌∙◌}
use mathlib.Core.List.{List}
use native.Mathlib.Omega.{arith}
use native.Mathlib.Decide.{dec_lt}
use borrow.Author.Tests.{lt-ltb, le-ltb, ltb-true}
use lib.Dec.{ltb}
use lib.ListN.{length}
use Rattle.format.specs.Span.{Span, span_at}
use Rattle.format.specs.Write.{heavy_bytes, span_bytes}
use Rattle.format.specs.Loose.{is_loose, loose_read}
use Rattle.format.proofs.Each.{and₃}
use Rattle.format.proofs.Holds.{Holds}
use Rattle.format.proofs.SpanBack.{Packable, span_back}
use Rattle.format.proofs.WriteSize.{small, extended}

module _ (s : Span) where
  small_extended : small s ≡ true → extended s ≡ true
  small_extended e =
      let t = and₃ (ltb s.index 16) (ltb s.start 131072) (ltb s.len 256) e in
      let i = ltb-true s.index 16 t.0 in
      let j = ltb-true s.start 131072 t.1 in
      let l = ltb-true s.len 256 t.2 in
      let i' = lt-ltb s.index 32768 (omega arith) in
      let j' = lt-ltb s.start 134217728 (omega arith) in
      let l' = lt-ltb s.len 262144 (omega arith) in
      simp (i', j', l')

  -- the extra bits change no length
  pub extra_length : (x : ℕ) → length (span_bytes x s) ≡ length (span_bytes 0 s)
  unfolding span_bytes heavy_bytes
  extra_length x = go _ _ refl refl
    where
      go : (y z : Bool) → small s ≡ y → extended s ≡ z → length (span_bytes x s) ≡ length (span_bytes 0 s)
      go true z e f = simp e
      go false true e f = simp (e, f)
      go false false e f = simp (e, f)

  -- by their number alone, wherever it is read
  pub loose_bytes_lem : (p q : ℕ) → p ≤ q → ltb (length (span_bytes 0 s)) (q - p) ≡ is_loose p s q
  loose_bytes_lem p q h =
      elim (dec_lt (length (span_bytes 0 s)) (q - p)) [
        | yes k ↦ lt-ltb (length (span_bytes 0 s)) (q - p) k ∙ sym (lt-ltb (p + length (span_bytes 0 s)) q (omega arith))
        | no n ↦ le-ltb (length (span_bytes 0 s)) (q - p) (omega arith) ∙ sym (le-ltb (p + length (span_bytes 0 s)) q (omega arith))
      ]

  -- ---- by the bytes read: 4 never; 8 if index < 16, start < 131,072, length < 256; 12 if index < 32,768, start < 134,217,728, length < 262,144

  pub loose_4 : (p : ℕ) → is_loose p s (p + 4) ≡ false
  unfolding span_bytes heavy_bytes
  loose_4 p = go _ _ refl refl
    where
      go : (y z : Bool) → small s ≡ y → extended s ≡ z → is_loose p s (p + 4) ≡ false
      go true z e f = simp e (le-ltb (p + 4) (p + 4) (omega arith))
      go false true e f = simp (e, f) (le-ltb (p + 8) (p + 4) (omega arith))
      go false false e f = simp (e, f) (le-ltb (p + 12) (p + 4) (omega arith))

  pub loose_8 : (p : ℕ) → is_loose p s (p + 8) ≡ small s
  unfolding span_bytes heavy_bytes
  loose_8 p = go _ _ refl refl
    where
      go : (y z : Bool) → small s ≡ y → extended s ≡ z → is_loose p s (p + 8) ≡ small s
      go true z e f = simp e (lt-ltb (p + 4) (p + 8) (omega arith))
      go false true e f = simp (e, f) (le-ltb (p + 8) (p + 8) (omega arith))
      go false false e f = simp (e, f) (le-ltb (p + 12) (p + 8) (omega arith))

  pub loose_12 : (p : ℕ) → is_loose p s (p + 12) ≡ extended s
  unfolding span_bytes heavy_bytes
  loose_12 p = go _ _ refl refl
    where
      go : (y z : Bool) → small s ≡ y → extended s ≡ z → is_loose p s (p + 12) ≡ extended s
      go true z e f = simp (e, small_extended e) (lt-ltb (p + 4) (p + 12) (omega arith))
      go false true e f = simp (e, f) (lt-ltb (p + 8) (p + 12) (omega arith))
      go false false e f = simp (e, f) (le-ltb (p + 12) (p + 12) (omega arith))

-- a span that the writer made
pub span_tight : (b : List ℕ) (p x : ℕ) (s : Span) → x < 4 → Packable s → Holds b p (span_bytes x s) → loose_read p (span_at b p) ≡ false
span_tight b p x s h k g =
    ap (loose_read p) (span_back b p x s h k g)
    ∙ le-ltb (p + length (span_bytes 0 s)) (p + length (span_bytes x s)) (omega (arith, extra_length s x))
