-- One law for each return, call and turn of the loop of the functions that put text.
use Prim.Native.Nat.{ℕ, ◌+◌, ◌/◌, ◌%◌, ◌≤◌, ◌<◌, min}
use mathlib.Core.Path.{◌≡◌, refl, sym, ap, ◌∙◌}
use mathlib.Core.List.{List, [], ◌∷◌, ◌++◌}
use native.Mathlib.Omega.{arith}
use native.Mathlib.Numerals.{add-one}
use lib.ListN.{length, set, take, get_or}
use lib.Seq.{set_out, take-suc, take_all}
use Rattle.format.specs.Lister.{decimal}
use Rattle.text.specs.Typed.{Typed}
use Rattle.text.proofs.Typed.{typed_then, typed_as}
use Rattle.text.proofs.Decimal.{decimal_one, decimal_more}

-- ---- put_char

pub char_none : (b : List ℕ) (at x : ℕ) → length b ≤ at → Typed b at (x ∷ []) (length b) b
char_none b at x k = record { next = omega arith; contents = sym (set_out b at x k) }

pub char_put : (b : List ℕ) (at x : ℕ) → at < length b → Typed b at (x ∷ []) (at + 1) (set b at x)
char_put b at x h = record { next = omega arith; contents = refl }

pub ruleset char_cases = (char_none, char_put)

-- ---- put_text

pub text_none : (b : List ℕ) (at r : ℕ) (s : List ℕ) → r ≡ min at (length b) → Typed b at (take 0 s) r b
text_none b at r s e = record { next = omega arith; contents = refl }

module _ (b b₁ s : List ℕ) (at r i : ℕ) (t : Typed b at (take i s) r b₁) where
  pub text_more : (r₂ : ℕ) (b₂ : List ℕ) → i < length s → Typed b₁ r (get_or s i 0 ∷ []) r₂ b₂ → Typed b at (take (i + 1) s) r₂ b₂
  text_more r₂ b₂ h u =
      typed_as b b₂ at r₂ _ _ (sym (ap (λ n. take n s) (add-one i) ∙ take-suc s i 0 h)) (typed_then b b₁ at r (take i s) t b₂ r₂ (get_or s i 0 ∷ []) u)

  pub text_all : length s ≤ i → Typed b at s r b₁
  text_all h = typed_as b b₁ at r _ _ (take_all i s h) t

pub ruleset text_cases = (text_none, text_more, text_all)

-- ---- put_decimal

module _ (b : List ℕ) (at n d : ℕ) (e : d ≡ 48 + n % 10) where
  pub one_digit : (r : ℕ) (b' : List ℕ) → n < 10 → Typed b at (d ∷ []) r b' → Typed b at (decimal n) r b'
  one_digit r b' h t = typed_as b b' at r _ _ (ap (λ x. x ∷ []) e ∙ sym (decimal_one n h)) t

  pub more_digits : (r₁ r : ℕ) (b₁ b' : List ℕ) → 10 ≤ n → Typed b at (decimal (n / 10)) r₁ b₁ → Typed b₁ r₁ (d ∷ []) r b' → Typed b at (decimal n) r b'
  more_digits r₁ r b₁ b' h t u =
      typed_as b b' at r _ _ (ap (λ x. decimal (n / 10) ++ (x ∷ [])) e ∙ sym (decimal_more n h)) (typed_then b b₁ at r₁ (decimal (n / 10)) t b' r (d ∷ []) u)

pub ruleset decimal_cases = (one_digit, more_digits)
