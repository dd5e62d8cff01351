-- One law for each return of the reference's functions, with premises as the code's tests and calls give them. The refusals are `pack`'s.
use Prim.Native.Nat.{ℕ, ◌+◌, ◌-◌, ◌<◌, ◌≤◌}
use mathlib.Core.Bool.{Bool, true, false, ◌&&◌}
use mathlib.Core.Path.{◌≡◌, refl, sym, ◌∙◌}
use mathlib.Core.List.{List, ◌++◌}
use native.Mathlib.Omega.{arith}
use borrow.Author.Tests.{le-leb, ltb-true}
use lib.Dec.{ltb}
use lib.ListN.{length}
use Rattle.std.specs.Prelude.{Result, Ok, Err}
use Rattle.format.specs.Word.{word_bytes, put}
use Rattle.format.specs.Span.{Span}
use Rattle.format.specs.Write.{first_word, second_word, heavy_second, heavy_third, heavy_bytes, span_bytes}
use Rattle.format.specs.Pack.{span_form}
use Rattle.format.proofs.Each.{and₃}
use Rattle.pack.specs.Answer.{packed_answer, all_below}
use Rattle.pack.specs.Packing.{Stored}
use Rattle.pack.proofs.PackReturns.{no_room}
use Rattle.pack.proofs.Store.{put_then}
use Rattle.reference.specs.Packing.{extended_bytes}

-- ---- one form, where there is room for it

pub no_room_left : (b : List ℕ) (at : ℕ) (vs : List ℕ) (r : ℕ) → r ≡ length b - at → r < length vs → Stored b at vs (Err 6) b
no_room_left b at vs r e h = no_room b at vs (omega arith)

pub no_room_heavy : (b : List ℕ) (at x : ℕ) (s : Span) (r : ℕ) → r ≡ length b - at → r < 12 → Stored b at (heavy_bytes x s) (Err 6) b
unfolding heavy_bytes
no_room_heavy b at x s r e h = no_room_left b at (heavy_bytes x s) r e h

with_room : (b : List ℕ) (at : ℕ) (vs b' : List ℕ) → at + length vs ≤ length b → b' ≡ put b at vs → Stored b at vs (Ok (length vs)) b'
unfolding packed_answer
with_room b at vs b' k e = record { answer = simp (le-leb _ _ k); contents = simp (le-leb _ _ k) e }

module _ (b b₁ : List ℕ) (at x w : ℕ) (s : Span) (r : ℕ) (e : r ≡ length b - at) (e₁ : b₁ ≡ put b at (word_bytes w)) where
  pub small_written : w ≡ first_word x 0 s → 4 ≤ r → Stored b at (word_bytes (first_word x 0 s)) (Ok 4) b₁
  small_written f h = rw (← f) (with_room b at (word_bytes w) b₁ (omega arith) e₁)

  module _ (f : w ≡ first_word x 1 s) (b₂ : List ℕ) (v : ℕ) (e₂ : b₂ ≡ put b₁ (at + 4) (word_bytes v)) where
    two_put : 8 ≤ r → b₂ ≡ put b at (word_bytes w ++ word_bytes v)
    two_put h = put_then b b₁ b₂ at 4 (word_bytes w) (word_bytes v) e₁ e₂ refl (omega arith)

    pub extended_written : v ≡ second_word s → 8 ≤ r → Stored b at (extended_bytes x s) (Ok 8) b₂
    extended_written g h = rw (← f, ← g) (with_room b at (word_bytes w ++ word_bytes v) b₂ (omega arith) (two_put h))

    pub heavy_written : v ≡ heavy_second s → (b₃ : List ℕ) (u : ℕ) → b₃ ≡ put b₂ (at + 8) (word_bytes u) → u ≡ heavy_third s → 12 ≤ r → Stored b at (heavy_bytes x s) (Ok 12) b₃
    unfolding heavy_bytes
    heavy_written g b₃ u e₃ k h =
        let q = put_then b b₂ b₃ at 8 (word_bytes w ++ word_bytes v) (word_bytes u) (two_put (omega arith)) e₃ refl (omega arith) in
        rw (← f, ← g, ← k) (with_room b at (word_bytes w ++ word_bytes v ++ word_bytes u) b₃ (omega arith) q)

pub ruleset pack_word_cases = (no_room_left, no_room_heavy, small_written, extended_written, heavy_written)

-- ---- the form that is chosen

module _ (i t l : ℕ) (y : Bool) (e : y ≡ (ltb i 32768 && ltb t 134217728 && ltb l 262144)) (f : y ≡ true) where
  pub extended_index : i < 32768
  extended_index = ltb-true i 32768 (and₃ (ltb i 32768) (ltb t 134217728) (ltb l 262144) (sym e ∙ f)).0

  pub extended_start : t < 134217728
  extended_start = ltb-true t 134217728 (and₃ (ltb i 32768) (ltb t 134217728) (ltb l 262144) (sym e ∙ f)).1

  pub extended_len : l < 262144
  extended_len = ltb-true l 262144 (and₃ (ltb i 32768) (ltb t 134217728) (ltb l 262144) (sym e ∙ f)).2

module _ (b : List ℕ) (at x : ℕ) (s : Span) (heavy : Bool) (r : Result ℕ ℕ) (b' : List ℕ) where
  pub form_forced : heavy ≡ true → Stored b at (heavy_bytes x s) r b' → Stored b at (span_form heavy x s) r b'
  form_forced e p = rw e p

  module _ (e : heavy ≡ false) (y : Bool) (f : y ≡ all_below s 16 131072 256) where
    pub form_small : y ≡ true → Stored b at (word_bytes (first_word x 0 s)) r b' → Stored b at (span_form heavy x s) r b'
    unfolding span_bytes
    form_small g p = let k : all_below s 16 131072 256 ≡ true = sym f ∙ g in simp (e, k) p

    module _ (g : y ≡ false) (z : Bool) (h : z ≡ all_below s 32768 134217728 262144) where
      pub form_extended : z ≡ true → Stored b at (extended_bytes x s) r b' → Stored b at (span_form heavy x s) r b'
      unfolding span_bytes
      form_extended j p =
          let k : all_below s 16 131072 256 ≡ false = sym f ∙ g in
          let m : all_below s 32768 134217728 262144 ≡ true = sym h ∙ j in
          simp (e, k, m) p

      pub form_large : z ≡ false → Stored b at (heavy_bytes x s) r b' → Stored b at (span_form heavy x s) r b'
      unfolding span_bytes
      form_large j p =
          let k : all_below s 16 131072 256 ≡ false = sym f ∙ g in
          let m : all_below s 32768 134217728 262144 ≡ false = sym h ∙ j in
          simp (e, k, m) p

pub ruleset pack_form_cases = (extended_index, extended_start, extended_len, form_forced, form_small, form_extended, form_large)
