-- Refusal 7 of the check: each tree before tree n is read, and the buffer ends inside tree n or before it.
use Prim.Native.Nat.{ℕ, ◌<◌}
use mathlib.Core.Bool.{true}
use mathlib.Core.Path.{◌≡◌, refl}
use mathlib.Core.List.{List}
use native.Mathlib.Omega.{arith}
use Rattle.format.specs.Verdict.{passed, refused}
use Rattle.format.specs.Reader.{Reader}
use Rattle.format.specs.Check.{place_of, read_rule, listing}
use Rattle.format.specs.Buffer.{word_shape, own_reader, buffer_check}
use Rattle.format.proofs.NestLaw.{Why, passes_other, passes_list, deep}
use Rattle.format.proofs.CheckRefusal.{Refused, size, tree, left, root, nesting, count}
use Rattle.format.proofs.Unread.{Cut}
use Rattle.format.proofs.TreeRefusal.{OwnRow, cut, early, bits, form, field, index, own_row, row_own, own_refusal, refusal_own}

module _ (b : List ℕ) (k : ℕ) (parts symbols : List ℕ) where
  abbrev R : Reader (List ℕ)
  R = own_reader b k parts symbols

  -- row 7 holds of tree n and "no earlier check fails"
  pub record OwnCut (n : ℕ) : Type 0 where
    pub sized : R.sized ≡ true
    pub in_list : n < R.trees
    pub before : (m : ℕ) → m < n → read_rule word_shape R m ≡ passed
    pub cuts : Cut b (place_of word_shape R n)

  pub own_cut : (n : ℕ) → buffer_check b k parts symbols ≡ refused 7 n → OwnCut n
  own_cut n e = go 7 n (own_refusal b k parts symbols 7 n e) refl
    where
      row : (n r : ℕ) → OwnRow b k parts symbols n r → r ≡ 7 → Cut b (place_of word_shape R n)
      row n r (cut h) e = h
      row n r (early h) e = absurd (omega arith)
      row n r (bits h) e = absurd (omega arith)
      row n r (form t q k e' f) e = absurd (omega arith)
      row n r (field t q k e' f g) e = absurd (omega arith)
      row n r (index t q k e' f g h) e = absurd (omega arith)

      other : (r n : ℕ) → Why word_shape (listing word_shape R) r n → r ≡ 7 → ⊥
      other r n (passes_other m x h s t l g) e = omega arith
      other r n (passes_list x s g) e = omega arith
      other r n (deep x s f g) e = omega arith

      go : (r n : ℕ) → Refused word_shape R r n → r ≡ 7 → OwnCut n
      go r n (size h) e = absurd (omega arith)
      go r n (tree r' n' s l f a) e = record { sized = s; in_list = l; before = a; cuts = row n r (own_row b k parts symbols n r f) e }
      go r n (left a h) e = absurd (omega arith)
      go r n (root a w o) e = absurd (omega arith)
      go r n (nesting r' n' a f) e = absurd (other r n f.why e)
      go r n (count n' a ne l s h f) e = absurd (omega arith)

  pub cut_own : (n : ℕ) → OwnCut n → buffer_check b k parts symbols ≡ refused 7 n
  cut_own n h = refusal_own b k parts symbols 7 n (tree 7 n h.sized h.in_list (row_own b k parts symbols n 7 (cut h.cuts)) h.before)
