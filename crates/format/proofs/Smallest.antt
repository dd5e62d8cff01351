-- No reading of a span or a symbol takes fewer bytes than its packed form: the form that is written is the smallest, and of lower numbers no longer.
use Prim.Native.Nat.{ℕ, ◌+◌, ◌*◌, ◌/◌, ◌%◌, ◌≤◌, ◌<◌}
use mathlib.Core.Bool.{Bool, true, false, ◌&&◌}
use mathlib.Core.Path.{◌≡◌, refl, subst}
use mathlib.Core.List.{List}
use native.Mathlib.Omega.{arith}
use borrow.Author.Tests.{lt-ltb, ltb-true}
use lib.Dec.{leb, eqb, ltb}
use lib.ListN.{length}
use Rattle.format.specs.Word.{AreBytes, byte_at, half_at, word_at}
use Rattle.format.specs.Span.{Span, SpanRead, span, span_at, span₁, span₂, span₃, SymbolRead, symbol, symbol_at}
use Rattle.format.specs.Write.{heavy_bytes, span_bytes, symbol_bytes}
use Rattle.format.proofs.Each.{and₃}
use Rattle.format.proofs.WriteSize.{small, extended, span_size_lem, symbol_size_lem}

-- in four, eight bytes if it fits
four : (x : ℕ) (s : Span) → s.index < 16 → s.start < 131072 → s.len < 256 → length (span_bytes x s) ≡ 4
unfolding span_bytes
four x s a b c =
    let i = lt-ltb s.index 16 a in
    let j = lt-ltb s.start 131072 b in
    let k = lt-ltb s.len 256 c in
    simp (i, j, k)

eight : (x : ℕ) (s : Span) → s.index < 32768 → s.start < 134217728 → s.len < 262144 → length (span_bytes x s) ≤ 8
unfolding span_bytes
eight x s a b c = go _ refl
  where
    go : (y : Bool) → (ltb s.index 16 && ltb s.start 131072 && ltb s.len 256) ≡ y → length (span_bytes x s) ≤ 8
    go true e = simp e (omega arith)
    go false e =
        let i = lt-ltb s.index 32768 a in
        let j = lt-ltb s.start 134217728 b in
        let k = lt-ltb s.len 262144 c in
        simp (e, i, j, k) (omega arith)

-- a symbol in one byte, in two
one_byte : (t i : ℕ) → i < 64 → length (symbol_bytes t i) ≡ 1
unfolding symbol_bytes
one_byte t i h = let e = lt-ltb i 64 h in simp e

two_bytes : (t i : ℕ) → i < 8192 → length (symbol_bytes t i) ≤ 2
unfolding symbol_bytes
two_bytes t i h = go _ refl
  where
    go : (y : Bool) → ltb i 64 ≡ y → length (symbol_bytes t i) ≤ 2
    go true e = simp e (omega arith)
    go false e = let f = lt-ltb i 8192 h in simp (e, f) (omega arith)

-- ---- lower numbers take no more bytes

module _ (x : ℕ) (s : Span) where
  is_eight : small s ≡ false → extended s ≡ true → length (span_bytes x s) ≡ 8
  unfolding span_bytes
  is_eight e f = simp (e, f)

  is_twelve : small s ≡ false → extended s ≡ false → length (span_bytes x s) ≡ 12
  unfolding span_bytes heavy_bytes
  is_twelve e f = simp (e, f)

-- of a span's length only length / 256 counts
pub span_lower : (x y : ℕ) (s t : Span) → s.index ≤ t.index → s.start ≤ t.start → s.len / 256 ≤ t.len / 256 → length (span_bytes x s) ≤ length (span_bytes y t)
span_lower x y s t i j l = go _ _ refl refl
  where
    go : (u v : Bool) → small t ≡ u → extended t ≡ v → length (span_bytes x s) ≤ length (span_bytes y t)
    go true v e f =
        let a = and₃ (ltb t.index 16) (ltb t.start 131072) (ltb t.len 256) e in
        let a₀ = ltb-true t.index 16 a.0 in
        let a₁ = ltb-true t.start 131072 a.1 in
        let a₂ = ltb-true t.len 256 a.2 in
        let c = four x s (omega arith) (omega arith) (omega arith) in
        let d = (span_size_lem y t).least in
        omega arith
    go false true e f =
        let a = and₃ (ltb t.index 32768) (ltb t.start 134217728) (ltb t.len 262144) f in
        let a₀ = ltb-true t.index 32768 a.0 in
        let a₁ = ltb-true t.start 134217728 a.1 in
        let a₂ = ltb-true t.len 262144 a.2 in
        let c = eight x s (omega arith) (omega arith) (omega arith) in
        let d = is_eight y t e f in
        omega arith
    go false false e f = let c = (span_size_lem x s).most in let d = is_twelve y t e f in omega arith

module _ (x i : ℕ) (e : ltb i 64 ≡ false) where
  two_some : 2 ≤ length (symbol_bytes x i)
  unfolding symbol_bytes
  two_some = go _ refl
    where
      go : (y : Bool) → ltb i 8192 ≡ y → 2 ≤ length (symbol_bytes x i)
      go true f = simp (e, f) (omega arith)
      go false f = simp (e, f) (omega arith)

  is_four : ltb i 8192 ≡ false → length (symbol_bytes x i) ≡ 4
  unfolding symbol_bytes
  is_four f = simp (e, f)

pub symbol_lower : (x y i j : ℕ) → i ≤ j → length (symbol_bytes x i) ≤ length (symbol_bytes y j)
symbol_lower x y i j l = go _ _ refl refl
  where
    go : (u v : Bool) → ltb j 64 ≡ u → ltb j 8192 ≡ v → length (symbol_bytes x i) ≤ length (symbol_bytes y j)
    go true v e f =
        let h = ltb-true j 64 e in
        let c = one_byte x i (omega arith) in
        let d = (symbol_size_lem y j).least in
        omega arith
    go false true e f =
        let h = ltb-true j 8192 f in
        let c = two_bytes x i (omega arith) in
        let d = two_some y j e in
        omega arith
    go false false e f = let c = (symbol_size_lem x i).most in let d = is_four y j e f in omega arith

module _ (b : List ℕ) (bytes : AreBytes b) where
  word_below : (p : ℕ) → word_at b p < 4294967296
  unfolding word_at
  word_below p =
      let x = bytes.below p in
      let y = bytes.below (p + 1) in
      let z = bytes.below (p + 2) in
      let w = bytes.below (p + 3) in
      omega arith

  first_fits : (x w : ℕ) → w < 4294967296 → length (span_bytes x (span₁ w)) ≡ 4
  first_fits x w h = four x (span₁ w) (omega arith) (omega arith) (omega arith)

  second_fits : (x w v : ℕ) → w < 4294967296 → v < 4294967296 → length (span_bytes x (span₂ w v)) ≤ 8
  second_fits x w v h k = eight x (span₂ w v) (index w v) (start w v h k) (len w v)
    where
      index : (w v : ℕ) → w / 4 % 16 + 16 * (v / 2 % 2048) < 32768
      index w v = omega arith

      start : (w v : ℕ) → w < 4294967296 → v < 4294967296 → w / 32768 + 131072 * (v / 4194304) < 134217728
      start w v h k = omega arith

      len : (w v : ℕ) → w / 64 % 256 + 256 * (v / 4096 % 1024) < 262144
      len w v = omega arith

  abbrev NoShorter : ℕ → SpanRead → Type 0
  NoShorter p (span x s q) = p + length (span_bytes x s) ≤ q
  NoShorter p SpanRead.short = Unit {0}

  no_shorter : (p : ℕ) → NoShorter p (span_at b p)
  unfolding span_at
  no_shorter p = go _ _ _ _ _ refl refl refl refl refl
    where
      go : (x₁ x₂ x₃ x₄ x₅ : Bool) → leb (p + 4) (length b) ≡ x₁ → eqb (word_at b p / 16384 % 2) 0 ≡ x₂ → leb (p + 8) (length b) ≡ x₃ → eqb (word_at b (p + 4) % 2) 0 ≡ x₄
          → leb (p + 12) (length b) ≡ x₅ → NoShorter p (span_at b p)
      go false x₂ x₃ x₄ x₅ e₁ e₂ e₃ e₄ e₅ = simp e₁ tt
      go true true x₃ x₄ x₅ e₁ e₂ e₃ e₄ e₅ = let l = first_fits (word_at b p % 4) (word_at b p) (word_below p) in simp (e₁, e₂) (omega arith)
      go true false false x₄ x₅ e₁ e₂ e₃ e₄ e₅ = simp (e₁, e₂, e₃) tt
      go true false true true x₅ e₁ e₂ e₃ e₄ e₅ =
          let l = second_fits (word_at b p % 4) (word_at b p) (word_at b (p + 4)) (word_below p) (word_below (p + 4)) in
          simp (e₁, e₂, e₃, e₄) (omega arith)
      go true false true false false e₁ e₂ e₃ e₄ e₅ = simp (e₁, e₂, e₃, e₄, e₅) tt
      go true false true false true e₁ e₂ e₃ e₄ e₅ =
          let l = (span_size_lem (word_at b p % 4) (span₃ (word_at b p) (word_at b (p + 4)) (word_at b (p + 8)))).most in
          simp (e₁, e₂, e₃, e₄, e₅) (omega arith)

  pub span_smallest : (p x : ℕ) (s : Span) (q : ℕ) → span_at b p ≡ span x s q → p + length (span_bytes x s) ≤ q
  span_smallest p x s q e = subst (NoShorter p) e (no_shorter p)

  -- ---- symbols

  abbrev NotShorter : ℕ → SymbolRead → Type 0
  NotShorter p (symbol t i q) = p + length (symbol_bytes t i) ≤ q
  NotShorter p SymbolRead.short = Unit {0}

  not_shorter : (p : ℕ) → NotShorter p (symbol_at b p)
  unfolding symbol_at
  not_shorter p = go _ _ _ _ _ refl refl refl refl refl
    where
      go : (x₁ x₂ x₃ x₄ x₅ : Bool) → leb (p + 1) (length b) ≡ x₁ → eqb (byte_at b p / 2 % 2) 0 ≡ x₂ → leb (p + 2) (length b) ≡ x₃ → eqb (byte_at b (p + 1) % 2) 0 ≡ x₄
          → leb (p + 4) (length b) ≡ x₅ → NotShorter p (symbol_at b p)
      go false x₂ x₃ x₄ x₅ e₁ e₂ e₃ e₄ e₅ = simp e₁ tt
      go true true x₃ x₄ x₅ e₁ e₂ e₃ e₄ e₅ =
          let y = bytes.below p in
          let l = one_byte (byte_at b p % 2) (byte_at b p / 4) (omega arith) in
          simp (e₁, e₂) (omega arith)
      go true false false x₄ x₅ e₁ e₂ e₃ e₄ e₅ = simp (e₁, e₂, e₃) tt
      go true false true true x₅ e₁ e₂ e₃ e₄ e₅ =
          let y = bytes.below p in
          let z = bytes.below (p + 1) in
          let l = two_bytes (byte_at b p % 2) (byte_at b p / 4 + 64 * (byte_at b (p + 1) / 2)) (omega arith) in
          simp (e₁, e₂, e₃, e₄) (omega arith)
      go true false true false false e₁ e₂ e₃ e₄ e₅ = simp (e₁, e₂, e₃, e₄, e₅) tt
      go true false true false true e₁ e₂ e₃ e₄ e₅ =
          let l = (symbol_size_lem (byte_at b p % 2) (byte_at b p / 4 + 64 * (byte_at b (p + 1) / 2) + 8192 * half_at b (p + 2))).most in
          simp (e₁, e₂, e₃, e₄, e₅) (omega arith)

  pub symbol_smallest : (p t i q : ℕ) → symbol_at b p ≡ symbol t i q → p + length (symbol_bytes t i) ≤ q
  symbol_smallest p t i q e = subst (NotShorter p) e (not_shorter p)
