-- One law for each return of `decode_symbol`, `put_symbol`, with premises as the code's tests and calls give them.
use Prim.Native.Nat.{ℕ, ◌+◌, ◌*◌, ◌-◌, ◌/◌, ◌%◌, ◌<◌, ◌≤◌}
use mathlib.Core.Path.{◌≡◌, refl, ◌∙◌}
use mathlib.Core.List.{List, [], ◌∷◌}
use native.Mathlib.Omega.{arith}
use borrow.Author.Tests.{lt-ltb, le-ltb, le-leb, lt-leb, eq-eqb, ne_eqb}
use lib.ListN.{length}
use Rattle.std.specs.Prelude.{Some, None}
use Rattle.format.specs.Word.{byte_at, half_at, half_bytes, put}
use Rattle.format.specs.Span.{symbol_at}
use Rattle.format.specs.Write.{symbol_bytes}
use Rattle.pack.specs.Answer.{symbol_answer}
use Rattle.pack.proofs.Store.{put_put}
use Rattle.pack.proofs.Sizes.{symbol_least, two_least, two_byte_size, four_byte_size}

module _ (b : List ℕ) (at r : ℕ) (e : r ≡ length b - at) where
  pub short_1 : r < 1 → None ≡ symbol_answer (symbol_at b at)
  unfolding symbol_answer symbol_at
  short_1 h = let k : length b < at + 1 = omega arith in simp (lt-leb _ _ k)

  module _ (x : ℕ) (e₁ : x ≡ byte_at b at) (h₁ : 1 ≤ r) where
    pub got_1 : x / 2 % 2 ≡ 0 → Some (record { index = x / 4; tag = x % 2; next = at + 1 }) ≡ symbol_answer (symbol_at b at)
    unfolding symbol_answer symbol_at
    got_1 z = let k : at + 1 ≤ length b = omega arith in simp (le-leb _ _ k, ← e₁, eq-eqb _ _ z)

    module _ (n : x / 2 % 2 ≡ 0 → ⊥) where
      pub short_2 : r < 2 → None ≡ symbol_answer (symbol_at b at)
      unfolding symbol_answer symbol_at
      short_2 j =
          let k : at + 1 ≤ length b = omega arith in
          let k₂ : length b < at + 2 = omega arith in
          simp (le-leb _ _ k, ← e₁, ne_eqb _ _ n, lt-leb _ _ k₂)

      module _ (y : ℕ) (e₂ : y ≡ byte_at b (at + 1)) (h₂ : 2 ≤ r) where
        pub got_2 : y % 2 ≡ 0 → Some (record { index = x / 4 + 64 * (y / 2); tag = x % 2; next = at + 2 }) ≡ symbol_answer (symbol_at b at)
        unfolding symbol_answer symbol_at
        got_2 z =
            let k : at + 1 ≤ length b = omega arith in
            let k₂ : at + 2 ≤ length b = omega arith in
            simp (le-leb _ _ k, ← e₁, ne_eqb _ _ n, le-leb _ _ k₂, ← e₂, eq-eqb _ _ z)

        module _ (m : y % 2 ≡ 0 → ⊥) where
          pub short_4 : r < 4 → None ≡ symbol_answer (symbol_at b at)
          unfolding symbol_answer symbol_at
          short_4 j =
              let k : at + 1 ≤ length b = omega arith in
              let k₂ : at + 2 ≤ length b = omega arith in
              let k₃ : length b < at + 4 = omega arith in
              simp (le-leb _ _ k, ← e₁, ne_eqb _ _ n, le-leb _ _ k₂, ← e₂, ne_eqb _ _ m, lt-leb _ _ k₃)

          pub got_4 : (z : ℕ) → z ≡ half_at b (at + 2) → 4 ≤ r → Some (record { index = x / 4 + 64 * (y / 2) + 8192 * z; tag = x % 2; next = at + 4 }) ≡ symbol_answer (symbol_at b at)
          unfolding symbol_answer symbol_at
          got_4 z e₃ j =
              let k : at + 1 ≤ length b = omega arith in
              let k₂ : at + 2 ≤ length b = omega arith in
              let k₃ : at + 4 ≤ length b = omega arith in
              simp (le-leb _ _ k, ← e₁, ne_eqb _ _ n, le-leb _ _ k₂, ← e₂, ne_eqb _ _ m, le-leb _ _ k₃, ← e₃)

pub ruleset decode_symbol_cases = (short_1, got_1, short_2, got_2, short_4, got_4)

-- ---- `put_symbol`: the room for each store, and what the stores leave

module _ (at i n : ℕ) (h : at + length (symbol_bytes 0 i) ≤ n) where
  pub room_1 : at + 1 ≤ n
  room_1 = omega (arith, symbol_least 0 i)

  pub room_2 : 64 ≤ i → (m : ℕ) → m ≡ n → at + 1 + 1 ≤ m
  room_2 g m e = omega (arith, two_least 0 i g)

  pub room_4 : 8192 ≤ i → (m j : ℕ) → m ≡ n → j ≡ m → at + 2 + 2 ≤ j
  room_4 g m j e f = omega (arith, four_byte_size 0 i g)

module _ (b b₁ : List ℕ) (at t i : ℕ) where
  pub put_1 : b₁ ≡ put b at ((t + 4 * i) ∷ []) → i < 64 → b₁ ≡ put b at (symbol_bytes t i)
  unfolding symbol_bytes
  put_1 e h = e ∙ simp (lt-ltb i 64 h)

  module _ (e₁ : b₁ ≡ put b at ((t + 2 + 4 * (i % 64)) ∷ [])) (g : 64 ≤ i) (h : at + length (symbol_bytes 0 i) ≤ length b) (b₂ : List ℕ) where
    pub put_2 : b₂ ≡ put b₁ (at + 1) ((2 * (i / 64)) ∷ []) → i < 8192 → b₂ ≡ put b at (symbol_bytes t i)
    unfolding symbol_bytes
    put_2 e₂ k =
        let l = two_byte_size 0 i g k in
        let p = put_put b at 1 ((t + 2 + 4 * (i % 64)) ∷ []) ((2 * (i / 64)) ∷ []) refl (omega arith) in
        e₂ ∙ rw (e₁, p) (simp (le-ltb i 64 g, lt-ltb i 8192 k))

    pub put_4 : b₂ ≡ put b₁ (at + 1) ((1 + 2 * (i / 64 % 128)) ∷ []) → 8192 ≤ i → (b₃ : List ℕ) → b₃ ≡ put b₂ (at + 2) (half_bytes (i / 8192)) → b₃ ≡ put b at (symbol_bytes t i)
    unfolding symbol_bytes
    put_4 e₂ k b₃ e₃ =
        let l = four_byte_size 0 i k in
        let p = put_put b at 1 ((t + 2 + 4 * (i % 64)) ∷ []) ((1 + 2 * (i / 64 % 128)) ∷ []) refl (omega arith) in
        let q = put_put b at 2 ((t + 2 + 4 * (i % 64)) ∷ (1 + 2 * (i / 64 % 128)) ∷ []) (half_bytes (i / 8192)) refl (omega arith) in
        e₃ ∙ rw (e₂, e₁, p, q) (simp (le-ltb i 64 g, le-ltb i 8192 k))

pub ruleset put_symbol_cases = (room_1, room_2, room_4, put_1, put_2, put_4)
