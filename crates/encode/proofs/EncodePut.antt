-- One law for each `put_..` of src/encode.rt: stores one behind the other are the bytes of the form.
use Prim.Native.Nat.{ℕ, ◌+◌, ◌*◌, ◌<◌, ◌≤◌}
use mathlib.Core.Bool.{false}
use mathlib.Core.Path.{◌≡◌, refl, ap, ◌∙◌}
use mathlib.Core.List.{List, [], ◌∷◌, ◌++◌}
use native.Mathlib.Omega.{arith}
use lib.ListN.{length, length-append}
use Rattle.std.specs.Prelude.{Result, Ok, Err}
use Rattle.format.specs.Word.{half_bytes, word_bytes, put}
use Rattle.format.specs.Span.{Span}
use Rattle.format.specs.Tree.{subtree}
use Rattle.format.specs.Write.{join, byte, span_bytes, heavy_bytes, symbol_bytes, root_bytes, tree_bytes}
use Rattle.format.proofs.Kept.{kept}
use Rattle.format.proofs.Put.{put_length}
use Rattle.pack.specs.Packing.{SpanPacked}
use Rattle.pack.proofs.Store.{put_then}
use Rattle.format.proofs.WriteSize.{heavy_size}
use Rattle.pack.proofs.Sizes.{span_length, symbol_length}
use Rattle.pack.proofs.Use.{never, smallest_written, smallest_count, smallest_contents, heavy_contents, symbol_contents}
use Rattle.encode.specs.Ready.{SpanReady}

-- ---- stores one behind the other

put_2 : (b b₁ b₂ : List ℕ) (at p : ℕ) (us vs : List ℕ) → b₁ ≡ put b at us → b₂ ≡ put b₁ p vs → p ≡ at + length us → p + length vs ≤ length b → b₂ ≡ put b at (us ++ vs)
put_2 b b₁ b₂ at p us vs e₁ e₂ hp h = put_then b b₁ b₂ at (length us) us vs e₁ (e₂ ∙ ap (λ j. put b₁ j vs) hp) refl (omega arith)

put_3 : (b b₁ b₂ b₃ : List ℕ) (at p q : ℕ) (us vs ws : List ℕ) → b₁ ≡ put b at us → b₂ ≡ put b₁ p vs → b₃ ≡ put b₂ q ws → p ≡ at + length us → q ≡ p + length vs → q + length ws ≤ length b
    → b₃ ≡ put b at (us ++ (vs ++ ws))
put_3 b b₁ b₂ b₃ at p q us vs ws e₁ e₂ e₃ hp hq h =
    let l : length b₁ ≡ length b = ap length e₁ ∙ put_length b at us (omega arith) in
    let i : b₃ ≡ put b₁ p (vs ++ ws) = put_2 b₁ b₂ b₃ p q vs ws e₂ e₃ hq (omega arith) in
    put_2 b b₁ b₃ at p us (vs ++ ws) e₁ i hp (omega (arith, length-append vs ws))

-- the same behind a span, whose length does not turn on its extra bits
module _ (b b₁ : List ℕ) (at next x : ℕ) (s : Span) (e₁ : b₁ ≡ put b at (span_bytes x s)) (hn : next ≡ at + length (span_bytes 0 s)) where
  behind : next ≡ at + length (span_bytes x s)
  behind = omega (arith, span_length x s)

  -- ---- what the forms' functions leave

  module _ (b₂ : List ℕ) where
    pub ascii_put : (c : ℕ) → b₂ ≡ put b₁ next (c ∷ []) → at + length (span_bytes 0 s) + 1 ≤ length b → b₂ ≡ put b at (join (span_bytes x s ∷ byte c ∷ []))
    ascii_put c e₂ h = put_2 b b₁ b₂ at next (span_bytes x s) (c ∷ []) e₁ e₂ behind (omega arith)

    pub three_put : (c n k : ℕ) → b₂ ≡ put b₁ next (c ∷ n ∷ k ∷ []) → at + length (span_bytes 0 s) + 3 ≤ length b → b₂ ≡ put b at (join (span_bytes x s ∷ byte c ∷ byte n ∷ byte k ∷ []))
    three_put c n k e₂ h = put_2 b b₁ b₂ at next (span_bytes x s) (c ∷ n ∷ k ∷ []) e₁ e₂ behind (omega arith)

    pub ident_put : (r i : ℕ) → b₂ ≡ put b₁ next (symbol_bytes r i) → at + length (span_bytes 0 s) + length (symbol_bytes 0 i) ≤ length b → b₂ ≡ put b at (join (span_bytes x s ∷ symbol_bytes r i ∷ []))
    ident_put r i e₂ h = put_2 b b₁ b₂ at next (span_bytes x s) (symbol_bytes r i) e₁ e₂ behind (omega (arith, symbol_length r i))

    module _ (b₃ : List ℕ) where
      pub other_put : (c w : ℕ) → b₂ ≡ put b₁ next (c ∷ []) → b₃ ≡ put b₂ (next + 1) (word_bytes w) → at + length (span_bytes 0 s) + 5 ≤ length b → b₃ ≡ put b at (join (span_bytes x s ∷ byte c ∷ word_bytes w ∷ []))
      other_put c w e₂ e₃ h = put_3 b b₁ b₂ b₃ at next (next + 1) (span_bytes x s) (c ∷ []) (word_bytes w) e₁ e₂ e₃ behind refl (omega arith)

      pub short_put : (c m i : ℕ) → m ≡ c → (k : ℕ) → b₂ ≡ put b₁ next ((m + k) ∷ []) → b₃ ≡ put b₂ (next + 1) (symbol_bytes 0 i) → at + length (span_bytes 0 s) + 1 + length (symbol_bytes 0 i) ≤ length b
          → b₃ ≡ put b at (join (span_bytes x s ∷ byte (c + k) ∷ symbol_bytes 0 i ∷ []))
      short_put c m i f k e₂ e₃ h = put_3 b b₁ b₂ b₃ at next (next + 1) (span_bytes x s) ((c + k) ∷ []) (symbol_bytes 0 i) e₁ (e₂ ∙ rw f) e₃ behind refl (omega arith)

      pub raw_put : (c r y i : ℕ) → b₂ ≡ put b₁ next (c ∷ r ∷ y ∷ []) → b₃ ≡ put b₂ (next + 3) (symbol_bytes 0 i) → at + length (span_bytes 0 s) + 3 + length (symbol_bytes 0 i) ≤ length b
          → b₃ ≡ put b at (join (span_bytes x s ∷ byte c ∷ byte r ∷ byte y ∷ symbol_bytes 0 i ∷ []))
      raw_put c r y i e₂ e₃ h = put_3 b b₁ b₂ b₃ at next (next + 3) (span_bytes x s) (c ∷ r ∷ y ∷ []) (symbol_bytes 0 i) e₁ e₂ e₃ behind refl (omega arith)

      pub long_put : (c y i : ℕ) → b₂ ≡ put b₁ next (c ∷ y ∷ []) → b₃ ≡ put b₂ (next + 2) (symbol_bytes 0 i) → at + length (span_bytes 0 s) + 2 + length (symbol_bytes 0 i) ≤ length b
          → b₃ ≡ put b at (join (span_bytes x s ∷ byte c ∷ byte y ∷ symbol_bytes 0 i ∷ []))
      long_put c y i e₂ e₃ h = put_3 b b₁ b₂ b₃ at next (next + 2) (span_bytes x s) (c ∷ y ∷ []) (symbol_bytes 0 i) e₁ e₂ e₃ behind refl (omega arith)

      pub half_put : (c d n w : ℕ) → b₂ ≡ put b₁ next (c ∷ d ∷ n ∷ []) → b₃ ≡ put b₂ (next + 3) (half_bytes w) → at + length (span_bytes 0 s) + 5 ≤ length b
          → b₃ ≡ put b at (join (span_bytes x s ∷ byte c ∷ byte d ∷ byte n ∷ half_bytes w ∷ []))
      half_put c d n w e₂ e₃ h = put_3 b b₁ b₂ b₃ at next (next + 3) (span_bytes x s) (c ∷ d ∷ n ∷ []) (half_bytes w) e₁ e₂ e₃ behind refl (omega arith)

      pub close_put : (n k : ℕ) → b₂ ≡ put b₁ next (word_bytes n) → b₃ ≡ put b₂ (next + 4) (word_bytes k) → at + length (span_bytes 0 s) + 8 ≤ length b → b₃ ≡ put b at (join (span_bytes x s ∷ word_bytes n ∷ word_bytes k ∷ []))
      close_put n k e₂ e₃ h = put_3 b b₁ b₂ b₃ at next (next + 4) (span_bytes x s) (word_bytes n) (word_bytes k) e₁ e₂ e₃ behind refl (omega arith)

      pub apart_put : (c n k : ℕ) (t : Span) → b₂ ≡ put b₁ next (c ∷ []) → b₃ ≡ put b₂ (next + 1) (join (span_bytes 0 t ∷ word_bytes n ∷ word_bytes k ∷ []))
          → at + length (span_bytes 0 s) + 1 + length (span_bytes 0 t) + 8 ≤ length b → b₃ ≡ put b at (join (span_bytes x s ∷ byte c ∷ span_bytes 0 t ∷ word_bytes n ∷ word_bytes k ∷ []))
      apart_put c n k t e₂ e₃ h =
          let ws : List ℕ = span_bytes 0 t ++ (word_bytes n ++ word_bytes k) in
          put_3 b b₁ b₂ b₃ at next (next + 1) (span_bytes x s) (c ∷ []) ws e₁ e₂ e₃ behind refl (omega (arith, length-append (span_bytes 0 t) (word_bytes n ++ word_bytes k)))

-- ---- the root

module _ (b b₁ b₂ b₃ : List ℕ) (at : ℕ) (s : Span) (e₁ : b₁ ≡ put b at (heavy_bytes 0 s)) where
  pub root_close_put : (n k : ℕ) → b₂ ≡ put b₁ (at + 12) (word_bytes n) → b₃ ≡ put b₂ (at + 16) (word_bytes k) → at + 20 ≤ length b → b₃ ≡ put b at (join (heavy_bytes 0 s ∷ word_bytes n ∷ word_bytes k ∷ []))
  root_close_put n k e₂ e₃ h =
      let l = heavy_size 0 s in
      put_3 b b₁ b₂ b₃ at (at + 12) (at + 16) (heavy_bytes 0 s) (word_bytes n) (word_bytes k) e₁ e₂ e₃ (omega arith) (omega arith) (omega arith)

  pub root_put : (t : Span) (n d k : ℕ) → b₂ ≡ put b₁ (at + 12) ((5 + 8 * d) ∷ []) → b₃ ≡ put b₂ (at + 13) (join (heavy_bytes 0 t ∷ word_bytes n ∷ word_bytes k ∷ [])) → at + 33 ≤ length b
      → b₃ ≡ put b at (tree_bytes 0 (subtree s t n d) k)
  unfolding tree_bytes root_bytes
  root_put t n d k e₂ e₃ h =
      let l = heavy_size 0 s in
      let ws : List ℕ = heavy_bytes 0 t ++ (word_bytes n ++ word_bytes k) in
      let m = heavy_size 0 t in
      put_3 b b₁ b₂ b₃ at (at + 12) (at + 13) (heavy_bytes 0 s) ((5 + 8 * d) ∷ []) ws e₁ e₂ e₃ (omega arith) (omega arith) (omega (arith, length-append (heavy_bytes 0 t) (word_bytes n ++ word_bytes k)))

-- ---- pieces

module _ (b : List ℕ) (at x : ℕ) (s : Span) (r : Result ℕ ℕ) (b₁ : List ℕ) (p : SpanPacked b at false x s r b₁) (h₁ : x ≤ 3) (h : SpanReady s) (h₄ : at + length (span_bytes 0 s) ≤ length b) where
  -- there is room: no refusal
  module _ (k : ℕ) (q : r ≡ Err k) where
    pub never_place : at ≡ at + length (span_bytes 0 s)
    never_place = never r (length (span_bytes 0 s)) k (smallest_written b at x s r b₁ h₁ h.ends h.part p h₄) q

    pub never_stored : b₁ ≡ put b at (span_bytes x s)
    never_stored = never r (length (span_bytes 0 s)) k (smallest_written b at x s r b₁ h₁ h.ends h.part p h₄) q

  module _ (n : ℕ) (q : r ≡ Ok n) where
    pub span_place : at + n ≡ at + length (span_bytes 0 s)
    span_place = ap (λ j. at + j) (smallest_count b at x s r b₁ h₁ h.ends h.part p h₄ n q)

    pub span_room : length b < 18446744073709551616 → at + n < 18446744073709551616
    span_room g = omega (arith, smallest_count b at x s r b₁ h₁ h.ends h.part p h₄ n q)

    pub span_stored : b₁ ≡ put b at (span_bytes x s)
    span_stored = smallest_contents b at x s r b₁ h₁ h.ends h.part p h₄

module _ (b b₁ b₂ : List ℕ) (at : ℕ) where
  pub two_put : (x y : ℕ) → b₁ ≡ put b at (x ∷ []) → b₂ ≡ put b₁ (at + 1) (y ∷ []) → at + 2 ≤ length b → b₂ ≡ put b at (x ∷ y ∷ [])
  two_put x y e₁ e₂ h = put_2 b b₁ b₂ at (at + 1) (x ∷ []) (y ∷ []) e₁ e₂ refl (omega arith)

  pub three_bytes : (x y z : ℕ) → b₁ ≡ put b at (x ∷ y ∷ []) → b₂ ≡ put b₁ (at + 2) (z ∷ []) → at + 3 ≤ length b → b₂ ≡ put b at (x ∷ y ∷ z ∷ [])
  three_bytes x y z e₁ e₂ h = put_2 b b₁ b₂ at (at + 2) (x ∷ y ∷ []) (z ∷ []) e₁ e₂ refl (omega arith)

pub ruleset piece_cases = (never_place, never_stored, span_place, span_room, span_stored, two_put, three_bytes, heavy_contents, symbol_contents, kept)

pub ruleset leaf_cases = (ascii_put, three_put, ident_put, other_put, short_put, raw_put, long_put, kept)

pub ruleset subtree_cases = (half_put, close_put, apart_put, root_close_put, root_put, kept)
