-- What a caller learns from a number that row 2 has passed: the answer is the kind, and never the refusal.
use Prim.Native.Nat.{ℕ, ◌≤◌}
use mathlib.Core.Path.{◌≡◌, sym, ◌∙◌}
use native.Mathlib.Omega.{arith}
use borrow.Author.Tests.{le-leb}
use mathlib.Core.Bool.{true}
use lib.Dec.{leb, eqb}
use Rattle.std.specs.Prelude.{if◌then◌else◌, Result, Ok, Err}
use Rattle.format.specs.Tree.{is_raw_kind}
use Rattle.tree.specs.Types.{spacing_of, is_raw_of, delimiter_of, lit_kind_of, spacing_answer, is_raw_answer, delimiter_answer, lit_kind_answer}
use Rattle.tree.specs.declared.types.Spacing.{Spacing}
use Rattle.tree.specs.declared.types.IdentIsRaw.{IdentIsRaw}
use Rattle.tree.specs.declared.types.DelimiterKind.{DelimiterKind}
use Rattle.tree.specs.declared.types.LitKind.{LitKind}

same : {A : Type 0} (y z : A) → ◌≡◌ {A = Result A ℕ} (Ok y) (Ok z) → y ≡ z
same y z e = cc

apart : {A B : Type 0} (k : ℕ) (y : A) → ◌≡◌ {A = Result A ℕ} (Err k) (Ok y) → B
apart k y e = let z : ◌≡◌ {A = ℕ} 0 1 = cc in absurd (omega arith)

module _ (x : ℕ) (h : x ≤ 2) (a : Result Spacing ℕ) (e : a ≡ spacing_answer x) where
  spacing_is : spacing_answer x ≡ Ok (spacing_of x)
  unfolding spacing_answer
  spacing_is = simp (le-leb x 2 h)

  pub spacing_got : (y : Spacing) → a ≡ Ok y → y ≡ spacing_of x
  spacing_got y q = same y (spacing_of x) (sym q ∙ e ∙ spacing_is)

  pub spacing_never : {A : Type 0} (k : ℕ) → a ≡ Err k → A
  spacing_never k q = apart k (spacing_of x) (sym q ∙ e ∙ spacing_is)

module _ (x : ℕ) (h : x ≤ 1) (a : Result IdentIsRaw ℕ) (e : a ≡ is_raw_answer x) where
  is_raw_is : is_raw_answer x ≡ Ok (is_raw_of x)
  unfolding is_raw_answer
  is_raw_is = simp (le-leb x 1 h)

  pub is_raw_got : (y : IdentIsRaw) → a ≡ Ok y → y ≡ is_raw_of x
  is_raw_got y q = same y (is_raw_of x) (sym q ∙ e ∙ is_raw_is)

  pub is_raw_never : {A : Type 0} (k : ℕ) → a ≡ Err k → A
  is_raw_never k q = apart k (is_raw_of x) (sym q ∙ e ∙ is_raw_is)

module _ (x : ℕ) (h : x ≤ 3) (a : Result DelimiterKind ℕ) (e : a ≡ delimiter_answer x) where
  delimiter_is : delimiter_answer x ≡ Ok (delimiter_of x)
  unfolding delimiter_answer
  delimiter_is = simp (le-leb x 3 h)

  pub delimiter_got : (y : DelimiterKind) → a ≡ Ok y → y ≡ delimiter_of x
  delimiter_got y q = same y (delimiter_of x) (sym q ∙ e ∙ delimiter_is)

  pub delimiter_never : {A : Type 0} (k : ℕ) → a ≡ Err k → A
  delimiter_never k q = apart k (delimiter_of x) (sym q ∙ e ∙ delimiter_is)

module _ (x r : ℕ) (h : x ≤ 10) (g : (if is_raw_kind x then leb r 255 else eqb r 0) ≡ true) (a : Result LitKind ℕ) (e : a ≡ lit_kind_answer x r) where
  kind_is : lit_kind_answer x r ≡ Ok (lit_kind_of x r)
  unfolding lit_kind_answer
  kind_is = rw (le-leb x 10 h, g)

  pub kind_got : (y : LitKind) → a ≡ Ok y → y ≡ lit_kind_of x r
  kind_got y q = same y (lit_kind_of x r) (sym q ∙ e ∙ kind_is)

  pub kind_never : {A : Type 0} (k : ℕ) → a ≡ Err k → A
  kind_never k q = apart k (lit_kind_of x r) (sym q ∙ e ∙ kind_is)
