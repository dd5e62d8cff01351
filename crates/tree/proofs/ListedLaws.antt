-- What the sort of a tree says of its values; and that row 2 is silent on a tree within the limits of src/plain.rt.
use Prim.Native.Nat.{ℕ, zero, suc, ◌+◌, ◌/◌, ◌%◌, ◌<◌, ◌≤◌}
use mathlib.Core.Bool.{Bool, true, false}
use mathlib.Core.Path.{◌≡◌, refl}
use mathlib.Core.List.{List}
use native.Mathlib.Omega.{arith}
use borrow.Author.Tests.{le-leb, leb-true, eq-eqb, ne_eqb}
use lib.Dec.{leb, eqb}
use Rattle.std.specs.Prelude.{if◌then◌else◌}
use Rattle.format.specs.Width.{open_at, close_at}
use Rattle.format.specs.Part.{WordSpan, span_from, no_span}
use Rattle.format.specs.Root.{range_fits}
use Rattle.format.specs.Tree.{is_raw_kind}
use Rattle.format.specs.WordList.{word_of, raw_from, no_close, word_fields}
use Rattle.format.proofs.PartLaw.{span_same}
use Rattle.tree.specs.Raw.{punct_raw, ident_raw, literal_raw, subtree_raw}
use Rattle.tree.specs.Listed.{punct_at, ident_at, literal_at, subtree_at}
use Rattle.tree.specs.Plain.{second_most, first_most, close_most, span_sum, Low, LowClose}

-- ---- the sort

module _ (l : List ℕ) (n o c y : ℕ) where
  pub punct_sort : word_of l n 0 ≡ 0 → raw_from o c y (word_of l n) ≡ punct_raw (punct_at l n o)
  unfolding raw_from
  punct_sort h = simp (eq-eqb _ _ h)

  pub ident_sort : word_of l n 0 ≡ 1 → raw_from o c y (word_of l n) ≡ ident_raw (ident_at l n o y)
  unfolding raw_from
  ident_sort h =
      let a : eqb (word_of l n 0) 0 ≡ false = ne_eqb _ _ (λ (q : word_of l n 0 ≡ 0). absurd (omega arith)) in
      simp (a, eq-eqb _ _ h)

  pub literal_sort : word_of l n 0 ≡ 2 → raw_from o c y (word_of l n) ≡ literal_raw (literal_at l n o y)
  unfolding raw_from
  literal_sort h =
      let a : eqb (word_of l n 0) 0 ≡ false = ne_eqb _ _ (λ (q : word_of l n 0 ≡ 0). absurd (omega arith)) in
      let b : eqb (word_of l n 0) 1 ≡ false = ne_eqb _ _ (λ (q : word_of l n 0 ≡ 1). absurd (omega arith)) in
      simp (a, b, eq-eqb _ _ h)

  pub subtree_sort : 2 < word_of l n 0 → raw_from o c y (word_of l n) ≡ subtree_raw (subtree_at l n o c)
  unfolding raw_from
  subtree_sort h =
      let a : eqb (word_of l n 0) 0 ≡ false = ne_eqb _ _ (λ (q : word_of l n 0 ≡ 0). absurd (omega arith)) in
      let b : eqb (word_of l n 0) 1 ≡ false = ne_eqb _ _ (λ (q : word_of l n 0 ≡ 1). absurd (omega arith)) in
      let d : eqb (word_of l n 0) 2 ≡ false = ne_eqb _ _ (λ (q : word_of l n 0 ≡ 2). absurd (omega arith)) in
      simp (a, b, d)

-- ---- a tree within them

count_zero : (b : Bool) (r : ℕ) → r ≡ 0 → (if b then leb r 255 else eqb r 0) ≡ true
count_zero true r h = rw h
count_zero false r h = rw h

zero_sum : (s : WordSpan) → span_sum s ≤ 0 → s ≡ no_span
zero_sum s h =
    let a : s.part.file ≡ 0 = omega arith in
    let b : s.part.ast ≡ 0 = omega arith in
    let c : s.part.context ≡ 0 = omega arith in
    let d : s.start ≡ 0 = omega arith in
    let e : s.len ≡ 0 = omega arith in
    λ i. record { part = record { file = a i; ast = b i; context = c i }; start = d i; len = e i }

leaf_close : (w : ℕ → ℕ) → span_sum (span_from w close_at) ≤ 0 → no_close w ≡ true
leaf_close w h = span_same (span_from w close_at) no_span (zero_sum (span_from w close_at) h)

-- the range of a span's start and length
abbrev Ends : WordSpan → Type 0
Ends s = s.start + s.len ≤ 4294967295

module _ (w : ℕ → ℕ) (ho : Ends (span_from w open_at)) where
  plain_punct : w 0 ≡ 0 → w 2 ≤ 2 → w 1 ≤ 0xD7FF → no_close w ≡ true → word_fields w ≡ true
  unfolding raw_from
  plain_punct z h₂ h₁ k = simp (z, le-leb _ _ ho, le-leb _ _ h₂, le-leb _ _ h₁, k)

  plain_ident : w 0 ≡ 1 → w 2 ≤ 1 → no_close w ≡ true → word_fields w ≡ true
  unfolding raw_from
  plain_ident z h₂ k = simp (z, le-leb _ _ ho, le-leb _ _ h₂, k)

  plain_literal : w 0 ≡ 2 → w 2 ≤ 10 → no_close w ≡ true → word_fields w ≡ true
  unfolding raw_from
  plain_literal z h₂ k =
      let a : w 2 % 256 ≤ 10 = omega arith in
      let b : w 2 / 256 % 256 ≡ 0 = omega arith in
      let d : w 2 / 65536 ≤ 255 = omega arith in
      let e : (if is_raw_kind (w 2 % 256) then leb (w 2 / 256 % 256) 255 else eqb (w 2 / 256 % 256) 0) ≡ true = count_zero (is_raw_kind (w 2 % 256)) (w 2 / 256 % 256) b in
      simp (z, le-leb _ _ ho, le-leb _ _ a, e, le-leb _ _ d, k)

  plain_subtree : w 0 ≡ 3 → w 2 ≤ 3 → Ends (span_from w close_at) → word_fields w ≡ true
  unfolding raw_from
  plain_subtree z h₂ hc = simp (z, le-leb _ _ ho, le-leb _ _ hc, le-leb _ _ h₂)

-- by the sort, the limits being what it says
within : (x : ℕ) (w : ℕ → ℕ) → w 0 ≡ x → x ≤ 3 → w 2 ≤ second_most x → w 1 ≤ first_most x → span_sum (span_from w close_at) ≤ close_most x → Ends (span_from w open_at) → Ends (span_from w close_at)
    → word_fields w ≡ true
within zero w z h h₂ h₁ k e f = plain_punct w e z h₂ h₁ (leaf_close w k)
within (suc zero) w z h h₂ h₁ k e f = plain_ident w e z h₂ (leaf_close w k)
within (suc (suc zero)) w z h h₂ h₁ k e f = plain_literal w e z h₂ (leaf_close w k)
within (suc (suc (suc zero))) w z h h₂ h₁ k e f = plain_subtree w e z h₂ f
within (suc (suc (suc (suc x)))) w z h h₂ h₁ k e f = absurd (omega arith)

pub plain_fields : (w : ℕ → ℕ) → Low w → LowClose w → range_fits (span_from w open_at) ≡ true → range_fits (span_from w close_at) ≡ true → word_fields w ≡ true
plain_fields w a b e f = within (w 0) w refl a.sort a.second a.first b.close (leb-true _ _ e) (leb-true _ _ f)
