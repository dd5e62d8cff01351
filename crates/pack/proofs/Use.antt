-- What a caller learns from the contracts, without opening a definition.
use Prim.Native.Nat.{ℕ, ◌+◌, ◌-◌, ◌*◌, ◌/◌, ◌%◌, ◌≤◌, ◌<◌}
use mathlib.Core.Bool.{Bool, true, false}
use mathlib.Core.Path.{◌≡◌, refl, sym, ap, ◌∙◌, subst}
use mathlib.Core.List.{List}
use native.Mathlib.Omega.{arith}
use lib.Dec.{leb, ltb, eqb}
use lib.ListN.{length}
use Rattle.std.specs.Prelude.{if◌then◌else◌, Option, Some, None, Result, Ok, Err}
use Rattle.format.specs.Verdict.{Verdict, passed, refused, report}
use Rattle.format.specs.Verdict as verdict
use Rattle.format.specs.Word.{byte_at, half_at, word_at, put}
use Rattle.format.specs.Span.{Span, span, span_at, span₁, span₂, span₃, symbol, symbol_at}
use Rattle.format.specs.Span as format
use Rattle.format.specs.Write.{heavy_bytes, span_bytes, symbol_bytes}
use Rattle.format.specs.Pack.{span_form, pack_span, pack_symbol}
use Rattle.format.specs.Loose.{is_loose}
use Rattle.format.proofs.LooseLaw.{loose_bytes_lem}
use Rattle.format.proofs.TreeBounds.{Spanned, span_within, Symboled, symbol_within}
use Rattle.format.proofs.PackLaw.{span_packs, symbol_packs}
use Rattle.pack.specs.Answer.{span_of, span_answer, symbol_answer, packed_answer}
use Rattle.pack.specs.Packing.{SpanPacked, SymbolPacked}
use Rattle.pack.specs.declared.span.SpanAt.{SpanAt}
use Rattle.pack.specs.declared.symbol.SymbolAt.{SymbolAt}
use Rattle.format.proofs.WriteSize.{heavy_size}
use Rattle.pack.proofs.Sizes.{form_length, symbol_length}

-- ---- a span that was read

read_short : {A : Type 0} (y : SpanAt) → Some y ≡ None → A
read_short y e = let z : ◌≡◌ {A = ℕ} 0 1 = cc in absurd (omega arith)

read_read : (y z : SpanAt) → Some y ≡ Some z → y ≡ z
read_read y z e = cc

span_of_answer : (z : format.SpanRead) (y : SpanAt) → Some y ≡ span_answer z → z ≡ span y.extra (span_of y.span) y.next
unfolding span_answer
span_of_answer (format.span x s n) y e = sym (ap (λ (u : SpanAt). span u.extra (span_of u.span) u.next) (read_read _ _ e))
span_of_answer format.SpanRead.short y e = read_short y e

short_of_answer : (z : format.SpanRead) → None ≡ span_answer z → z ≡ format.SpanRead.short
unfolding span_answer
short_of_answer (format.span x s n) e = read_short _ (sym e)
short_of_answer format.SpanRead.short e = refl

abbrev SmallExtra : format.SpanRead → Type 0
SmallExtra (format.span x s n) = x < 4
SmallExtra format.SpanRead.short = Unit {0}

small_extra : (b : List ℕ) (at : ℕ) → SmallExtra (span_at b at)
unfolding span_at
small_extra b at =
    let w = word_at b at in
    let v = word_at b (at + 4) in
    go w (span₁ w) (span₂ w v) (span₃ w v (word_at b (at + 8))) (leb (at + 4) (length b)) (eqb (w / 16384 % 2) 0) (leb (at + 8) (length b)) (eqb (v % 2) 0) (leb (at + 12) (length b))
  where
    under : (w : ℕ) → w % 4 < 4
    under w = omega arith

    go : (w : ℕ) (s₁ s₂ s₃ : Span) (x₁ x₂ x₃ x₄ x₅ : Bool) → SmallExtra
        (if x₁ then (if x₂ then span (w % 4) s₁ (at + 4) else (if x₃ then (if x₄ then span (w % 4) s₂ (at + 8) else (if x₅ then span (w % 4) s₃ (at + 12) else format.SpanRead.short)) else format.SpanRead.short)) else format.SpanRead.short)
    go w s₁ s₂ s₃ false x₂ x₃ x₄ x₅ = tt
    go w s₁ s₂ s₃ true true x₃ x₄ x₅ = under w
    go w s₁ s₂ s₃ true false false x₄ x₅ = tt
    go w s₁ s₂ s₃ true false true true x₅ = under w
    go w s₁ s₂ s₃ true false true false false = tt
    go w s₁ s₂ s₃ true false true false true = under w

module _ (b : List ℕ) (at : ℕ) (r : Option SpanAt) (e : r ≡ span_answer (span_at b at)) where
  pub span_cut : r ≡ None → span_at b at ≡ format.SpanRead.short
  span_cut k = short_of_answer (span_at b at) (sym k ∙ e)

  module _ (y : SpanAt) (k : r ≡ Some y) where
    pub span_read : span_at b at ≡ span y.extra (span_of y.span) y.next
    span_read = span_of_answer (span_at b at) y (sym k ∙ e)

    pub span_after : at + 4 ≤ y.next
    span_after = (subst (Spanned b at) span_read (span_within b at)).0

    pub span_before : at ≤ y.next
    span_before = omega (arith, span_after)

    pub span_inside : y.next ≤ length b
    span_inside = (subst (Spanned b at) span_read (span_within b at)).1

    pub span_extra : y.extra < 4
    span_extra = subst SmallExtra span_read (small_extra b at)

    -- by the number of its bytes
    pub span_loose : (x : Bool) → x ≡ ltb (length (span_bytes 0 (span_of y.span))) (y.next - at) → x ≡ is_loose at (span_of y.span) y.next
    span_loose x f = f ∙ loose_bytes_lem (span_of y.span) at y.next span_before

-- what the definition reads is what the answer holds
pub span_found : (b : List ℕ) (at : ℕ) (r : Option SpanAt) → r ≡ span_answer (span_at b at) → (x : ℕ) (s : Span) (n : ℕ) → span_at b at ≡ span x s n
    → r ≡ Some (record { span = record { index = s.index; start = s.start; len = s.len }; extra = x; next = n })
unfolding span_answer
span_found b at r e x s n k = e ∙ rw k

-- ---- a symbol that was read

symbol_short : {A : Type 0} (y : SymbolAt) → Some y ≡ None → A
symbol_short y e = let z : ◌≡◌ {A = ℕ} 0 1 = cc in absurd (omega arith)

symbol_same : (y z : SymbolAt) → Some y ≡ Some z → y ≡ z
symbol_same y z e = cc

symbol_of_answer : (z : format.SymbolRead) (y : SymbolAt) → Some y ≡ symbol_answer z → z ≡ symbol y.tag y.index y.next
unfolding symbol_answer
symbol_of_answer (format.symbol t i n) y e = sym (ap (λ (u : SymbolAt). symbol u.tag u.index u.next) (symbol_same _ _ e))
symbol_of_answer format.SymbolRead.short y e = symbol_short y e

cut_of_answer : (z : format.SymbolRead) → None ≡ symbol_answer z → z ≡ format.SymbolRead.short
unfolding symbol_answer
cut_of_answer (format.symbol t i n) e = symbol_short _ (sym e)
cut_of_answer format.SymbolRead.short e = refl

abbrev SmallTag : format.SymbolRead → Type 0
SmallTag (format.symbol t i n) = t < 2
SmallTag format.SymbolRead.short = Unit {0}

small_tag : (b : List ℕ) (at : ℕ) → SmallTag (symbol_at b at)
unfolding symbol_at
small_tag b at =
    let x = byte_at b at in
    let y = byte_at b (at + 1) in
    go x (x / 4) (x / 4 + 64 * (y / 2)) (x / 4 + 64 * (y / 2) + 8192 * half_at b (at + 2)) (leb (at + 1) (length b)) (eqb (x / 2 % 2) 0) (leb (at + 2) (length b)) (eqb (y % 2) 0) (leb (at + 4) (length b))
  where
    under : (w : ℕ) → w % 2 < 2
    under w = omega arith

    go : (w i₁ i₂ i₃ : ℕ) (x₁ x₂ x₃ x₄ x₅ : Bool) → SmallTag
        (if x₁ then (if x₂ then symbol (w % 2) i₁ (at + 1) else (if x₃ then (if x₄ then symbol (w % 2) i₂ (at + 2) else (if x₅ then symbol (w % 2) i₃ (at + 4) else format.SymbolRead.short)) else format.SymbolRead.short)) else format.SymbolRead.short)
    go w i₁ i₂ i₃ false x₂ x₃ x₄ x₅ = tt
    go w i₁ i₂ i₃ true true x₃ x₄ x₅ = under w
    go w i₁ i₂ i₃ true false false x₄ x₅ = tt
    go w i₁ i₂ i₃ true false true true x₅ = under w
    go w i₁ i₂ i₃ true false true false false = tt
    go w i₁ i₂ i₃ true false true false true = under w

module _ (b : List ℕ) (at : ℕ) (r : Option SymbolAt) (e : r ≡ symbol_answer (symbol_at b at)) where
  pub symbol_cut : r ≡ None → symbol_at b at ≡ format.SymbolRead.short
  symbol_cut k = cut_of_answer (symbol_at b at) (sym k ∙ e)

  module _ (y : SymbolAt) (k : r ≡ Some y) where
    pub symbol_read : symbol_at b at ≡ symbol y.tag y.index y.next
    symbol_read = symbol_of_answer (symbol_at b at) y (sym k ∙ e)

    pub symbol_after : at + 1 ≤ y.next
    symbol_after = (subst (Symboled b at) symbol_read (symbol_within b at)).0

    pub symbol_inside : y.next ≤ length b
    symbol_inside = (subst (Symboled b at) symbol_read (symbol_within b at)).1

    pub symbol_tag : y.tag < 2
    symbol_tag = subst SmallTag symbol_read (small_tag b at)

pub symbol_found : (b : List ℕ) (at : ℕ) (r : Option SymbolAt) → r ≡ symbol_answer (symbol_at b at) → (t i n : ℕ) → symbol_at b at ≡ symbol t i n
    → r ≡ Some (record { index = i; tag = t; next = n })
unfolding symbol_answer
symbol_found b at r e t i n k = e ∙ rw k

pub ruleset read_cases = (span_cut, span_read, span_after, span_inside, span_extra, symbol_cut, symbol_read, symbol_after, symbol_inside, symbol_tag)

-- ---- what was packed

pub never : {A : Type 0} (r : Result ℕ ℕ) (n k : ℕ) → r ≡ Ok n → r ≡ Err k → A
never r n k p q = let z : ◌≡◌ {A = ℕ} 0 1 = cc in absurd (omega arith)

pub written_same : (m n : ℕ) → ◌≡◌ {A = Result ℕ ℕ} (Ok m) (Ok n) → m ≡ n
written_same m n e = cc

-- a refusal changes nothing
pub unchanged : (v : Verdict) (n k : ℕ) (b c : List ℕ) → Err k ≡ packed_answer (report v n) → verdict.contents v b c ≡ b
unfolding packed_answer
unchanged passed n k b c e = never (Err k) n k e refl
unchanged (refused i j) n k b c e = refl

module _ (b : List ℕ) (at : ℕ) (heavy : Bool) (x : ℕ) (s : Span) (r : Result ℕ ℕ) (b' : List ℕ) (p : SpanPacked b at heavy x s r b') where
  pub span_unchanged : (k : ℕ) → r ≡ Err k → b' ≡ b
  span_unchanged k e = p.contents ∙ unchanged (pack_span b at heavy x s) (length (span_form heavy x s)) k b (put b at (span_form heavy x s)) (sym e ∙ p.answer)

  -- within the bounds and with room
  module _ (h₁ : x ≤ 3) (h₂ : s.start + s.len ≤ 4294967295) (h₃ : s.index < 268435456) (h₄ : at + length (span_form heavy 0 s) ≤ length b) where
    span_fits_lem : pack_span b at heavy x s ≡ passed
    span_fits_lem = span_packs b at heavy x s h₁ h₂ h₃ (omega (arith, form_length heavy x s))

    pub span_written : r ≡ Ok (length (span_form heavy 0 s))
    unfolding packed_answer
    span_written = p.answer ∙ rw span_fits_lem (ap Ok (form_length heavy x s))

    pub span_count : (n : ℕ) → r ≡ Ok n → n ≡ length (span_form heavy 0 s)
    span_count n e = written_same n (length (span_form heavy 0 s)) (sym e ∙ span_written)

    pub span_contents : b' ≡ put b at (span_form heavy x s)
    span_contents = p.contents ∙ rw span_fits_lem

-- the two forms by their own names
module _ (b : List ℕ) (at x : ℕ) (s : Span) (r : Result ℕ ℕ) (b' : List ℕ) (h₁ : x ≤ 3) (h₂ : s.start + s.len ≤ 4294967295) (h₃ : s.index < 268435456) where
  module _ (p : SpanPacked b at false x s r b') (h₄ : at + length (span_bytes 0 s) ≤ length b) where
    pub smallest_written : r ≡ Ok (length (span_bytes 0 s))
    smallest_written = span_written b at false x s r b' p h₁ h₂ h₃ h₄

    pub smallest_count : (n : ℕ) → r ≡ Ok n → n ≡ length (span_bytes 0 s)
    smallest_count n e = written_same n (length (span_bytes 0 s)) (sym e ∙ smallest_written)

    pub smallest_contents : b' ≡ put b at (span_bytes x s)
    smallest_contents = span_contents b at false x s r b' p h₁ h₂ h₃ h₄

  module _ (p : SpanPacked b at true x s r b') (h₄ : at + 12 ≤ length b) where
    pub heavy_written : r ≡ Ok 12
    heavy_written = span_written b at true x s r b' p h₁ h₂ h₃ (omega (arith, heavy_size 0 s)) ∙ ap Ok (heavy_size 0 s)

    pub heavy_count : (n : ℕ) → r ≡ Ok n → n ≡ 12
    heavy_count n e = written_same n 12 (sym e ∙ heavy_written)

    pub heavy_contents : b' ≡ put b at (heavy_bytes x s)
    heavy_contents = span_contents b at true x s r b' p h₁ h₂ h₃ (omega (arith, heavy_size 0 s))

module _ (b : List ℕ) (at t i : ℕ) (r : Result ℕ ℕ) (b' : List ℕ) (p : SymbolPacked b at t i r b') where
  pub symbol_unchanged : (k : ℕ) → r ≡ Err k → b' ≡ b
  symbol_unchanged k e = p.contents ∙ unchanged (pack_symbol b at t i) (length (symbol_bytes t i)) k b (put b at (symbol_bytes t i)) (sym e ∙ p.answer)

  module _ (h₁ : t ≤ 1) (h₂ : i < 536870912) (h₃ : at + length (symbol_bytes 0 i) ≤ length b) where
    symbol_fits_lem : pack_symbol b at t i ≡ passed
    symbol_fits_lem = symbol_packs b at t i h₁ h₂ (omega (arith, symbol_length t i))

    pub symbol_written : r ≡ Ok (length (symbol_bytes 0 i))
    unfolding packed_answer
    symbol_written = p.answer ∙ rw symbol_fits_lem (ap Ok (symbol_length t i))

    pub symbol_count : (n : ℕ) → r ≡ Ok n → n ≡ length (symbol_bytes 0 i)
    symbol_count n e = written_same n (length (symbol_bytes 0 i)) (sym e ∙ symbol_written)

    pub symbol_contents : b' ≡ put b at (symbol_bytes t i)
    symbol_contents = p.contents ∙ rw symbol_fits_lem

pub ruleset packed_cases = (span_written, span_count, span_contents, smallest_written, smallest_count, smallest_contents, heavy_written, heavy_count, heavy_contents, symbol_written, symbol_count, symbol_contents)
