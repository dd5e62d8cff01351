-- How many bytes a span and a symbol take: 4, 8 or 12, and 1, 2 or 4, whatever the extra bits and the tag bit are.
use Prim.Native.Nat.{ℕ, ◌≤◌, ◌<◌}
use mathlib.Core.Bool.{Bool, true, false}
use mathlib.Core.Path.{◌≡◌, refl, sym, ◌∙◌}
use mathlib.Core.Logic.{◌⊎◌, inl, inr}
use native.Mathlib.Omega.{arith}
use native.Mathlib.Decide.{dec_lt}
use borrow.Author.Tests.{lt-ltb, le-ltb}
use lib.Dec.{ltb}
use lib.ListN.{length}
use Rattle.format.specs.Span.{Span}
use Rattle.format.specs.Write.{heavy_bytes, span_bytes, symbol_bytes}
use Rattle.format.specs.Pack.{span_form}
use Rattle.format.proofs.WriteSize.{heavy_size}
use Rattle.format.proofs.LooseLaw.{extra_length}
use Rattle.pack.specs.Answer.{all_below}

module _ (x : ℕ) (s : Span) where
  pub small_size : all_below s 16 131072 256 ≡ true → length (span_bytes x s) ≡ 4
  unfolding span_bytes
  small_size e = simp e

  pub extended_size : all_below s 16 131072 256 ≡ false → all_below s 32768 134217728 262144 ≡ true → length (span_bytes x s) ≡ 8
  unfolding span_bytes
  extended_size e f = simp (e, f)

  pub large_size : all_below s 16 131072 256 ≡ false → all_below s 32768 134217728 262144 ≡ false → length (span_bytes x s) ≡ 12
  unfolding span_bytes heavy_bytes
  large_size e f = simp (e, f)

  pub span_sizes : (length (span_bytes x s) ≡ 4) ⊎ (length (span_bytes x s) ≡ 8) ⊎ (length (span_bytes x s) ≡ 12)
  span_sizes = go _ _ refl refl
    where
      go : (y z : Bool) → all_below s 16 131072 256 ≡ y → all_below s 32768 134217728 262144 ≡ z → (length (span_bytes x s) ≡ 4) ⊎ (length (span_bytes x s) ≡ 8) ⊎ (length (span_bytes x s) ≡ 12)
      go true z e f = inl (small_size e)
      go false true e f = inr (inl (extended_size e f))
      go false false e f = inr (inr (large_size e f))

  pub span_length : length (span_bytes x s) ≡ length (span_bytes 0 s)
  span_length = extra_length s x

pub form_length : (heavy : Bool) (x : ℕ) (s : Span) → length (span_form heavy x s) ≡ length (span_form heavy 0 s)
form_length true x s = heavy_size x s ∙ sym (heavy_size 0 s)
form_length false x s = span_length x s

pub form_least : (heavy : Bool) (x : ℕ) (s : Span) → 4 ≤ length (span_form heavy x s)
form_least true x s = omega (arith, heavy_size x s)
form_least false x s = go (span_sizes x s)
  where
    go : (length (span_bytes x s) ≡ 4) ⊎ (length (span_bytes x s) ≡ 8) ⊎ (length (span_bytes x s) ≡ 12) → 4 ≤ length (span_bytes x s)
    go (inl e) = omega arith
    go (inr (inl e)) = omega arith
    go (inr (inr e)) = omega arith

pub form_most : (heavy : Bool) (x : ℕ) (s : Span) → length (span_form heavy x s) ≤ 12
form_most true x s = omega (arith, heavy_size x s)
form_most false x s = go (span_sizes x s)
  where
    go : (length (span_bytes x s) ≡ 4) ⊎ (length (span_bytes x s) ≡ 8) ⊎ (length (span_bytes x s) ≡ 12) → length (span_bytes x s) ≤ 12
    go (inl e) = omega arith
    go (inr (inl e)) = omega arith
    go (inr (inr e)) = omega arith

-- ---- symbols

module _ (t i : ℕ) where
  pub one_byte_size : i < 64 → length (symbol_bytes t i) ≡ 1
  unfolding symbol_bytes
  one_byte_size h = simp (lt-ltb i 64 h)

  pub two_byte_size : 64 ≤ i → i < 8192 → length (symbol_bytes t i) ≡ 2
  unfolding symbol_bytes
  two_byte_size g h = simp (le-ltb i 64 g, lt-ltb i 8192 h)

  pub four_byte_size : 8192 ≤ i → length (symbol_bytes t i) ≡ 4
  unfolding symbol_bytes
  four_byte_size h = let g : 64 ≤ i = omega arith in simp (le-ltb i 64 g, le-ltb i 8192 h)

  pub symbol_sizes : (length (symbol_bytes t i) ≡ 1) ⊎ (length (symbol_bytes t i) ≡ 2) ⊎ (length (symbol_bytes t i) ≡ 4)
  unfolding symbol_bytes
  symbol_sizes = go _ _ refl refl
    where
      go : (y z : Bool) → ltb i 64 ≡ y → ltb i 8192 ≡ z → (length (symbol_bytes t i) ≡ 1) ⊎ (length (symbol_bytes t i) ≡ 2) ⊎ (length (symbol_bytes t i) ≡ 4)
      go true z e f = inl (simp e)
      go false true e f = inr (inl (simp (e, f)))
      go false false e f = inr (inr (simp (e, f)))

  pub symbol_length : length (symbol_bytes t i) ≡ length (symbol_bytes 0 i)
  unfolding symbol_bytes
  symbol_length = go _ _ refl refl
    where
      go : (y z : Bool) → ltb i 64 ≡ y → ltb i 8192 ≡ z → length (symbol_bytes t i) ≡ length (symbol_bytes 0 i)
      go true z e f = simp e
      go false true e f = simp (e, f)
      go false false e f = simp (e, f)

pub symbol_least : (t i : ℕ) → 1 ≤ length (symbol_bytes t i)
symbol_least t i = go (symbol_sizes t i)
  where
    go : (length (symbol_bytes t i) ≡ 1) ⊎ (length (symbol_bytes t i) ≡ 2) ⊎ (length (symbol_bytes t i) ≡ 4) → 1 ≤ length (symbol_bytes t i)
    go (inl e) = omega arith
    go (inr (inl e)) = omega arith
    go (inr (inr e)) = omega arith

pub symbol_most : (t i : ℕ) → length (symbol_bytes t i) ≤ 4
symbol_most t i = go (symbol_sizes t i)
  where
    go : (length (symbol_bytes t i) ≡ 1) ⊎ (length (symbol_bytes t i) ≡ 2) ⊎ (length (symbol_bytes t i) ≡ 4) → length (symbol_bytes t i) ≤ 4
    go (inl e) = omega arith
    go (inr (inl e)) = omega arith
    go (inr (inr e)) = omega arith

pub two_least : (t i : ℕ) → 64 ≤ i → 2 ≤ length (symbol_bytes t i)
two_least t i g = elim (dec_lt i 8192) [ yes k ↦ omega (arith, two_byte_size t i g k) | no n ↦ omega (arith, four_byte_size t i (omega arith)) ]

-- ---- one law for each return of `span_size`, `symbol_size`

module _ (heavy : Bool) (s : Span) where
  pub size_forced : heavy ≡ true → 12 ≡ length (span_form heavy 0 s)
  size_forced e = rw e (sym (heavy_size 0 s))

  module _ (e : heavy ≡ false) (y : Bool) (f : y ≡ all_below s 16 131072 256) where
    pub size_4 : y ≡ true → 4 ≡ length (span_form heavy 0 s)
    size_4 g = rw e (sym (small_size 0 s (sym f ∙ g)))

    module _ (g : y ≡ false) (z : Bool) (h : z ≡ all_below s 32768 134217728 262144) where
      pub size_8 : z ≡ true → 8 ≡ length (span_form heavy 0 s)
      size_8 k = rw e (sym (extended_size 0 s (sym f ∙ g) (sym h ∙ k)))

      pub size_12 : z ≡ false → 12 ≡ length (span_form heavy 0 s)
      size_12 k = rw e (sym (large_size 0 s (sym f ∙ g) (sym h ∙ k)))

pub size_1 : (i : ℕ) → i < 64 → 1 ≡ length (symbol_bytes 0 i)
size_1 i h = sym (one_byte_size 0 i h)

pub size_2 : (i : ℕ) → 64 ≤ i → i < 8192 → 2 ≡ length (symbol_bytes 0 i)
size_2 i g h = sym (two_byte_size 0 i g h)

pub size_half : (i : ℕ) → 8192 ≤ i → 4 ≡ length (symbol_bytes 0 i)
size_half i h = sym (four_byte_size 0 i h)

pub ruleset size_cases = (size_forced, size_4, size_8, size_12, size_1, size_2, size_half)
