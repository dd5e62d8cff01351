-- What the first word of a span leaves of its three numbers tells the form: nothing, or what a second word holds.
use Prim.Native.Nat.{ℕ, ◌+◌, ◌*◌, ◌-◌, ◌/◌, ◌%◌, ◌<◌, ◌≤◌}
use mathlib.Core.Bool.{Bool, true, ◌&&◌}
use mathlib.Core.Path.{◌≡◌, sym, ◌∙◌}
use mathlib.Core.Logic.{⊎_elim}
use native.Mathlib.Omega.{arith}
use borrow.Author.Tests.{lt-ltb, le-ltb, ltb-true}
use lib.Dec.{ltb}
use Rattle.format.specs.Span.{Span}
use Rattle.format.specs.Write.{first_word, second_word, heavy_second, heavy_third}
use Rattle.format.proofs.Each.{and₃}
use Rattle.format.proofs.Tally.{lt_or_le}
use Rattle.pack.specs.Answer.{all_below}

-- two tests that come out alike
same_test : (a m b n : ℕ) → (a < m → b < n) → (m ≤ a → n ≤ b) → ltb a m ≡ ltb b n
same_test a m b n f g = ⊎_elim (λ h. lt-ltb a m h ∙ sym (lt-ltb b n (f h))) (λ h. le-ltb a m h ∙ sym (le-ltb b n (g h))) (lt_or_le a m)

-- ---- what the first word takes

pub taken_below : (s : Span) (a c d : ℕ) → a ≡ s.index % 16 → c ≡ s.start % 131072 → d ≡ s.len % 256 → (a < 16) × (c < 131072) × (d < 256)
taken_below s a c d e f g = (omega arith, omega arith, omega arith)

-- all of numbers that are below the divisors
pub word_only : (x : ℕ) (s : Span) (w : ℕ) → w ≡ x + 4 * s.index + 64 * s.len + 16384 * 0 + 32768 * s.start
    → (s.index < 16) × (s.start < 131072) × (s.len < 256) → w ≡ first_word x 0 s
word_only x s w e h =
    let i : s.index % 16 ≡ s.index = omega arith in
    let t : s.start % 131072 ≡ s.start = omega arith in
    let l : s.len % 256 ≡ s.len = omega arith in
    e ∙ rw (i, t, l)

-- ---- and what it leaves

-- there is no rest below the divisor, and only there
index_none : (a i : ℕ) → i ≡ a - a % 16 → ltb a 16 ≡ ltb i 1
index_none a i e = same_test a 16 i 1 (λ h. omega arith) (λ h. omega arith)

start_none : (a i : ℕ) → i ≡ a - a % 131072 → ltb a 131072 ≡ ltb i 1
start_none a i e = same_test a 131072 i 1 (λ h. omega arith) (λ h. omega arith)

len_none : (a i : ℕ) → i ≡ a - a % 256 → ltb a 256 ≡ ltb i 1
len_none a i e = same_test a 256 i 1 (λ h. omega arith) (λ h. omega arith)

-- a rest is below a bound that is a multiple of the divisor where its number is
index_rest : (a i : ℕ) → i ≡ a - a % 16 → ltb a 32768 ≡ ltb i 32768
index_rest a i e = same_test a 32768 i 32768 (λ h. omega arith) (λ h. omega arith)

start_rest : (a i : ℕ) → i ≡ a - a % 131072 → ltb a 134217728 ≡ ltb i 134217728
start_rest a i e = same_test a 134217728 i 134217728 (λ h. omega arith) (λ h. omega arith)

len_rest : (a i : ℕ) → i ≡ a - a % 256 → ltb a 262144 ≡ ltb i 262144
len_rest a i e = same_test a 262144 i 262144 (λ h. omega arith) (λ h. omega arith)

pub start_rest_fits : (a i : ℕ) → i ≡ a - a % 131072 → a < 4294967296 → i + 131072 ≤ 4294967296
start_rest_fits a i e h = omega arith

pub len_rest_whole : (a i : ℕ) → i ≡ a - a % 256 → i % 256 ≡ 0
len_rest_whole a i e = omega arith

module _ (s : Span) (i t l : ℕ) (e : i ≡ s.index - s.index % 16) (f : t ≡ s.start - s.start % 131072) (g : l ≡ s.len - s.len % 256) where
  pub rests_small : all_below s 16 131072 256 ≡ (ltb i 1 && ltb t 1 && ltb l 1)
  rests_small = rw (index_none s.index i e, start_none s.start t f, len_none s.len l g)

  pub no_rests : (y : Bool) → y ≡ (ltb i 1 && ltb t 1 && ltb l 1) → y ≡ true → (s.index < 16) × (s.start < 131072) × (s.len < 256)
  no_rests y h k =
      let m = and₃ (ltb s.index 16) (ltb s.start 131072) (ltb s.len 256) (rests_small ∙ sym h ∙ k) in
      (ltb-true _ _ m.0, ltb-true _ _ m.1, ltb-true _ _ m.2)

  pub rests_extended : all_below s 32768 134217728 262144 ≡ (ltb i 32768 && ltb t 134217728 && ltb l 262144)
  rests_extended = rw (index_rest s.index i e, start_rest s.start t f, len_rest s.len l g)

  pub rests_second : (v : ℕ) → v ≡ i / 8 + 16 * l + 32 * t → v ≡ second_word s
  rests_second v h = omega arith

  pub rests_heavy_second : (v : ℕ) → v ≡ 1 + 2 * (l / 65536) + t → v ≡ heavy_second s
  rests_heavy_second v h = omega arith

  pub rests_heavy_third : (u : ℕ) → u ≡ i / 16 + 65536 * (l % 65536) → u ≡ heavy_third s
  rests_heavy_third u h = omega arith
