-- A list of whole trees is the words of its trees, joined.
use Prim.Native.Nat.{ℕ, zero, suc, ◌+◌, ◌*◌, ◌/◌, ◌%◌, ◌≤◌, ◌<◌}
use mathlib.Core.Path.{◌≡◌, refl, ap, ◌∙◌}
use mathlib.Core.List.{List, [], ◌∷◌}
use native.Mathlib.Omega.{arith}
use lib.ListN.{length, get_or, take, drop, length-drop}
use lib.Seq.{take_all, take-add, get_or-drop}
use Rattle.format.specs.WordList.{word_of, tree_list, words_up_to, list_count, given}
use Rattle.format.specs.Width.{tree_size}

pub words_same : (f g : ℕ → List ℕ) (k : ℕ) → ((n : ℕ) → n < k → f n ≡ g n) → words_up_to f k ≡ words_up_to g k
unfolding words_up_to
words_same f g zero h = refl
words_same f g (suc k) h = let e = h k (omega arith) in let r = words_same f g k (λ n l. h n (omega arith)) in rw (e, r)

-- f 0 to f (n - 1)
tabled : ℕ → (ℕ → ℕ) → List ℕ
tabled zero f = []
tabled (suc n) f = f 0 ∷ tabled n (λ i. f (suc i))

take_tabled : (n : ℕ) (xs : List ℕ) → n ≤ length xs → take n xs ≡ tabled n (λ i. get_or xs i 0)
unfolding tabled
take_tabled zero xs h = refl
take_tabled (suc n) [] h = absurd (omega arith)
take_tabled (suc n) (x ∷ xs) h = ap (λ r. x ∷ r) (take_tabled n xs (omega arith))

module _ (l : List ℕ) where
  one_tree : (n : ℕ) → tree_size * n + tree_size ≤ length l → take tree_size (drop (tree_size * n) l) ≡ tree_list (word_of l n)
  unfolding tabled
  one_tree n h =
      let d = length-drop (tree_size * n) l in
      take_tabled tree_size (drop (tree_size * n) l) (omega arith) ∙ simp get_or-drop

  words_take : (k : ℕ) → tree_size * k ≤ length l → words_up_to (given l).tree k ≡ take (tree_size * k) l
  unfolding words_up_to
  words_take zero h = refl
  words_take (suc k) h =
      let e : tree_size * suc k ≡ tree_size * k + tree_size = omega arith in
      let r = words_take k (omega arith) in
      rw (e, take-add (tree_size * k) tree_size l, r, one_tree k (omega arith))

  pub words_whole : length l % tree_size ≡ 0 → words_up_to (given l).tree (list_count l) ≡ l
  words_whole h =
      let e : tree_size * (length l / tree_size) ≡ length l = omega arith in
      words_take (list_count l) (omega arith) ∙ take_all (tree_size * list_count l) l (omega arith)
