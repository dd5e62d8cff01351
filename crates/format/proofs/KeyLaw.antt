-- Laws of keys: two are alike where their words are the same, and which trees their numbers stand for.
use Prim.Native.Nat.{ℕ, ◌+◌, ◌*◌, ◌/◌, ◌%◌}
use mathlib.Core.Path.{◌≡◌, refl, ap, sym, ◌∙◌}
use mathlib.Core.Bool.{Bool, true, false, ◌||◌}
use mathlib.Core.List.{List, [], ◌∷◌}
use native.Mathlib.Omega.{arith}
use lib.ListN.{get_or}
use lib.Dec.{eqb}
use borrow.Author.Tests.{eqb-true, eq-eqb, ne_eqb}
use Rattle.format.specs.WordList.{word_of, open_part, close_part}
use Rattle.format.specs.MakeTables.{live_at, key_place, key_word, key_part, key_words, alike_at}
use Rattle.format.specs.Width.{open_at, close_at, tree_size}
use Rattle.format.specs.Part.{part_words}
use Rattle.format.proofs.NewsLaw.{Likeness}
use Rattle.format.proofs.PartLaw.{same_part_lem, part_same, words_part, part_from_lem}
use Rattle.format.proofs.ListTrees.{sort}

-- ---- alike

three : {a b c d e f : ℕ} → a ≡ d → b ≡ e → c ≡ f → a ∷ b ∷ c ∷ [] ≡ d ∷ e ∷ f ∷ []
three p q r = rw (p, q, r)

module _ (l : List ℕ) where
  pub alike_words : (s : Bool) (u v : ℕ) → alike_at l s u v ≡ true → key_words l s u ≡ key_words l s v
  unfolding alike_at
  alike_words true u v h =
      let e : key_word l true u 0 ≡ key_word l true v 0 = eqb-true _ _ h in
      rw e
  alike_words false u v h = ap part_words (same_part_lem (key_part l u) (key_part l v) h)

  pub alike_part : (u v : ℕ) → alike_at l false u v ≡ true → key_part l u ≡ key_part l v
  unfolding alike_at
  alike_part u v h = same_part_lem (key_part l u) (key_part l v) h

  pub words_alike : (s : Bool) (u v : ℕ) → key_words l s u ≡ key_words l s v → alike_at l s u v ≡ true
  unfolding alike_at
  words_alike true u v h = let e : key_word l true u 0 ≡ key_word l true v 0 = cc in simp (eq-eqb _ _ e)
  words_alike false u v h = part_same (key_part l u) (key_part l v) (words_part (key_part l u) (key_part l v) h)

  pub likeness : (s : Bool) → Likeness (alike_at l s)
  likeness s =
      record {
        self = λ u. words_alike s u u refl;
        turn = λ u v h. words_alike s v u (sym (alike_words s u v h));
        chain = λ u v w h g. words_alike s u w (alike_words s u v h ∙ alike_words s v w g);
      }

  -- ---- tree m + 1 has the symbol number m and the part numbers 2 m and 2 m + 1

  symbol_at_lem : (m : ℕ) → key_place true m + 0 ≡ tree_size * (m + 1) + 1
  unfolding key_place
  symbol_at_lem m = omega arith

  open_at_lem : (m j : ℕ) → key_place false (2 * m) + j ≡ tree_size * (m + 1) + (open_at + j)
  unfolding key_place
  open_at_lem m j = omega arith

  close_at_lem : (m j : ℕ) → key_place false (2 * m + 1) + j ≡ tree_size * (m + 1) + (close_at + j)
  unfolding key_place
  close_at_lem m j = omega arith

  pub symbol_word : (m : ℕ) → key_word l true m 0 ≡ word_of l (m + 1) 1
  symbol_word m = ap (λ (i : ℕ). get_or l i 0) (symbol_at_lem m)

  open_word : (m j : ℕ) → key_word l false (2 * m) j ≡ word_of l (m + 1) (open_at + j)
  open_word m j = ap (λ (i : ℕ). get_or l i 0) (open_at_lem m j)

  close_word : (m j : ℕ) → key_word l false (2 * m + 1) j ≡ word_of l (m + 1) (close_at + j)
  close_word m j = ap (λ (i : ℕ). get_or l i 0) (close_at_lem m j)

  pub open_key : (m : ℕ) → key_part l (2 * m) ≡ open_part l (m + 1)
  open_key m = part_from_lem (key_word l false (2 * m)) (word_of l (m + 1)) open_at (open_word m)

  pub close_key : (m : ℕ) → key_part l (2 * m + 1) ≡ close_part l (m + 1)
  close_key m = part_from_lem (key_word l false (2 * m + 1)) (word_of l (m + 1)) close_at (close_word m)

  sort_at : (n : ℕ) → get_or l (tree_size * n) 0 ≡ sort l n
  sort_at n = ap (λ (i : ℕ). get_or l i 0) (let e : tree_size * n ≡ tree_size * n + 0 = omega arith in e)

  pub live_symbol : (m : ℕ) → live_at l true m ≡ (eqb (sort l (m + 1)) 1 || eqb (sort l (m + 1)) 2)
  unfolding live_at
  live_symbol m = rw (sort_at (m + 1))

  pub live_open : (m : ℕ) → live_at l false (2 * m) ≡ true
  unfolding live_at
  live_open m = let e : 2 * m % 2 ≡ 0 = omega arith in simp (eq-eqb _ _ e)

  pub live_close : (m : ℕ) → live_at l false (2 * m + 1) ≡ eqb (sort l (m + 1)) 3
  unfolding live_at
  live_close m =
      let e : (2 * m + 1) % 2 ≡ 0 → ⊥ = λ z. absurd (omega arith) in
      let d : (2 * m + 1) / 2 ≡ m = omega arith in
      simp (ne_eqb _ _ e) (rw (d, sort_at (m + 1)))
