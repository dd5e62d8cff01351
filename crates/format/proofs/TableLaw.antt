-- What the tables of a list are, said of its trees: places, counts, sums, sizes.
use Prim.Native.Nat.{ℕ, zero, suc, ◌+◌, ◌*◌, ◌-◌, ◌/◌, ◌%◌, ◌<◌, ◌≤◌}
use mathlib.Core.Path.{◌≡◌, refl, ap, ap₂, sym, ◌∙◌}
use mathlib.Core.Bool.{true, false, not, ◌&&◌, ◌||◌}
use mathlib.Core.Logic.{◌⊎◌, inl, inr, ⊎_elim}
use mathlib.Core.List.{List, [], ◌∷◌, ◌++◌}
use native.Mathlib.Omega.{arith}
use lib.ListN.{length, get_or, length-append}
use lib.Dec.{eqb}
use borrow.Author.Tests.{eqb-true, ne_eqb}
use Rattle.format.specs.WordList.{word_of, list_count, open_part, close_part}
use Rattle.format.specs.Distinct.{tally, hits}
use Rattle.format.specs.MakeTables.{key_count, live_at, key_word, key_part, alike_at, times_of, table_keys, words_of, table_words, root_parts}
use Rattle.format.specs.MakeTables.{part_table, part_counts, symbol_table, symbol_counts, part_total}
use Rattle.format.specs.Width.{part_size}
use Rattle.format.specs.Part.{Part, part_words, same_part, part_at}
use Rattle.format.proofs.Tally.{lt_or_le, tally_all, tally_same, tally_or, tally_not, tally_pairs, total}
use Rattle.format.proofs.PartLaw.{part_on}
use Rattle.format.proofs.KeyLaw.{alike_words, alike_part, symbol_word, open_key, close_key, live_symbol, live_open, live_close}
use Rattle.format.proofs.TableKeys.{key_below, key_live, key_place_lem, key_words_apart, counts_many, count_at, counts_total, keys_most}
use Rattle.format.proofs.ListTrees.{sort, ident_at, literal_at, subtree_at, below}

-- ---- the words of keys, one key after the other

module _ (l : List ℕ) where
  part_words_many : (ks : List ℕ) → length (words_of l false ks) ≡ part_size * length ks
  unfolding words_of
  part_words_many [] = refl
  part_words_many (x ∷ xs) = let e : length (words_of l false xs) ≡ part_size * length xs = part_words_many xs in omega arith

  symbol_words_many : (ks : List ℕ) → length (words_of l true ks) ≡ length ks
  unfolding words_of
  symbol_words_many [] = refl
  symbol_words_many (x ∷ xs) = ap suc (symbol_words_many xs)

  part_words_at : (ks more : List ℕ) (i : ℕ) → i < length ks → part_at (words_of l false ks ++ more) i ≡ key_part l (get_or ks i 0)
  unfolding words_of
  part_words_at [] more i h = absurd (omega arith)
  part_words_at (x ∷ xs) more zero h = refl
  part_words_at (x ∷ xs) more (suc i) h =
      part_on (key_part l x) (words_of l false xs ++ more) i ∙ part_words_at xs more i (omega arith)

  part_words_behind : (ks more : List ℕ) (d : ℕ) → part_at (words_of l false ks ++ more) (length ks + d) ≡ part_at more d
  unfolding words_of
  part_words_behind [] more d = let e : 0 + d ≡ d = omega arith in rw e
  part_words_behind (x ∷ xs) more d =
      let e : suc (length xs) + d ≡ suc (length xs + d) = omega arith in
      rw e
      (part_on (key_part l x) (words_of l false xs ++ more) (length xs + d) ∙ part_words_behind xs more d)

  symbol_words_at : (ks : List ℕ) (i : ℕ) → i < length ks → get_or (words_of l true ks) i 0 ≡ key_word l true (get_or ks i 0) 0
  unfolding words_of
  symbol_words_at [] i h = absurd (omega arith)
  symbol_words_at (x ∷ xs) zero h = refl
  symbol_words_at (x ∷ xs) (suc i) h = symbol_words_at xs i (omega arith)

  -- ---- sizes

  part_keys : length (part_table l) ≡ part_size * (length (table_keys l false) + 2)
  unfolding part_table table_words
  part_keys = let e = part_words_many (table_keys l false) in length-append (words_of l false (table_keys l false)) (root_parts l) ∙ omega arith

  pub parts_many : part_total l ≡ length (table_keys l false) + 2
  parts_many = let e = part_keys in omega arith

  pub part_words_lem : length (part_table l) ≡ part_size * part_total l
  part_words_lem = let e = part_keys in omega arith

  pub symbols_many : length (symbol_table l) ≡ length (table_keys l true)
  unfolding symbol_table table_words
  symbols_many = symbol_words_many (table_keys l true)

  pub parts_least : 2 ≤ part_total l
  parts_least = let e = parts_many in omega arith

  pub parts_most : part_total l ≤ 2 * (list_count l - 1) + 2
  unfolding key_count
  parts_most = let e = parts_many in let h : length (table_keys l false) ≤ 2 * (list_count l - 1) = keys_most l false in omega arith

  -- no more than the largest list may have
  pub parts_bounded : list_count l ≤ 1048576 → part_total l ≤ 2097152
  parts_bounded h = let e = parts_most in omega arith

  pub symbols_most : length (symbol_table l) ≤ list_count l - 1
  unfolding key_count
  symbols_most = let e = symbols_many in let h : length (table_keys l true) ≤ list_count l - 1 = keys_most l true in omega arith

  -- a count for each part but the root's two, and for each symbol
  pub part_counts_many : length (part_counts l) + 2 ≡ part_total l
  unfolding part_counts
  part_counts_many = let e = parts_many in let h = counts_many l false in omega arith

  pub symbol_counts_many : length (symbol_counts l) ≡ length (symbol_table l)
  unfolding symbol_counts
  symbol_counts_many = let e = symbols_many in let h = counts_many l true in omega arith

  -- ---- entries

  pub part_entry : (i : ℕ) → i + 2 < part_total l → part_at (part_table l) i ≡ key_part l (get_or (table_keys l false) i 0)
  unfolding part_table table_words
  part_entry i h = let e = parts_many in part_words_at (table_keys l false) (root_parts l) i (omega arith)

  pub symbol_entry : (i : ℕ) → i < length (symbol_table l) → get_or (symbol_table l) i 0 ≡ key_word l true (get_or (table_keys l true) i 0) 0
  unfolding symbol_table table_words
  symbol_entry i h = let e = symbols_many in symbol_words_at (table_keys l true) i (omega arith)

  -- the last two are the root's
  pub root_open : part_at (part_table l) (part_total l - 2) ≡ open_part l 0
  unfolding part_table table_words
  root_open =
      let e = parts_many in
      let g : part_total l - 2 ≡ length (table_keys l false) + 0 = omega arith in
      ap (part_at (part_table l)) g ∙ part_words_behind (table_keys l false) (root_parts l) 0

  pub root_close : part_at (part_table l) (part_total l - 1) ≡ close_part l 0
  unfolding part_table table_words
  root_close =
      let e = parts_many in
      let g : part_total l - 1 ≡ length (table_keys l false) + 1 = omega arith in
      ap (part_at (part_table l)) g ∙ part_words_behind (table_keys l false) (root_parts l) 1

  -- ---- every part and every symbol below the root has a place

  abbrev HasPart : Part → Type 0
  HasPart p = (i : ℕ) × (i + 2 < part_total l) × (part_at (part_table l) i ≡ p)

  number_place : (v : ℕ) (p : Part) → v < 2 * (list_count l - 1) → live_at l false v ≡ true → key_part l v ≡ p → HasPart p
  unfolding key_count
  number_place v p h d w = at (key_place_lem l false v h d)
    where
      at : (i : ℕ) × (i < length (table_keys l false)) × (alike_at l false (get_or (table_keys l false) i 0) v ≡ true) → HasPart p
      at (i, k, a) =
          let e = parts_many in
          let g : i + 2 < part_total l = omega arith in
          (i, g, part_entry i g ∙ alike_part l (get_or (table_keys l false) i 0) v a ∙ w)

  pub open_place : (n : ℕ) → 1 ≤ n → n < list_count l → (i : ℕ) × (i + 2 < part_total l) × (part_at (part_table l) i ≡ open_part l n)
  open_place n a b =
      let e : n - 1 + 1 ≡ n = omega arith in
      number_place (2 * (n - 1)) (open_part l n) (omega arith) (live_open l (n - 1)) (open_key l (n - 1) ∙ ap (open_part l) e)

  pub close_place : (n : ℕ) → 1 ≤ n → n < list_count l → subtree_at l n ≡ true → (i : ℕ) × (i + 2 < part_total l) × (part_at (part_table l) i ≡ close_part l n)
  close_place n a b s =
      let e : n - 1 + 1 ≡ n = omega arith in
      number_place (2 * (n - 1) + 1) (close_part l n) (omega arith) (live_close l (n - 1) ∙ ap (subtree_at l) e ∙ s) (close_key l (n - 1) ∙ ap (close_part l) e)

  pub symbol_place : (n : ℕ) → 1 ≤ n → n < list_count l → (ident_at l n || literal_at l n) ≡ true
      → (i : ℕ) × (i < length (symbol_table l)) × (get_or (symbol_table l) i 0 ≡ word_of l n 1)
  unfolding key_count
  symbol_place n a b s =
      let e : n - 1 + 1 ≡ n = omega arith in
      let d : live_at l true (n - 1) ≡ true = live_symbol l (n - 1) ∙ ap (λ (m : ℕ). ident_at l m || literal_at l m) e ∙ s in
      let h : n - 1 < list_count l - 1 = omega arith in
      at (symbol_word l (n - 1) ∙ ap (λ (m : ℕ). word_of l m 1) e) (key_place_lem l true (n - 1) h d)
    where
      at : key_word l true (n - 1) 0 ≡ word_of l n 1 → (i : ℕ) × (i < length (table_keys l true)) × (alike_at l true (get_or (table_keys l true) i 0) (n - 1) ≡ true)
          → (i : ℕ) × (i < length (symbol_table l)) × (get_or (symbol_table l) i 0 ≡ word_of l n 1)
      at w (i, k, a) =
          let q = symbols_many in
          let g : i < length (symbol_table l) = omega arith in
          (i, g, symbol_entry i g ∙ ap (λ (x : List ℕ). get_or x 0 0) (alike_words l true (get_or (table_keys l true) i 0) (n - 1) a) ∙ w)

  -- ---- no two entries are alike, and each occurs

  pub parts_apart : (i j : ℕ) → i + 2 < part_total l → j + 2 < part_total l → part_at (part_table l) i ≡ part_at (part_table l) j → i ≡ j
  parts_apart i j h g e =
      let n = parts_many in
      key_words_apart l false i j (omega arith) (omega arith) (ap part_words (sym (part_entry i h) ∙ e ∙ part_entry j g))

  pub symbols_apart : (i j : ℕ) → i < length (symbol_table l) → j < length (symbol_table l) → get_or (symbol_table l) i 0 ≡ get_or (symbol_table l) j 0 → i ≡ j
  symbols_apart i j h g e =
      let n = symbols_many in
      key_words_apart l true i j (omega arith) (omega arith) (ap (λ (x : ℕ). x ∷ []) (sym (symbol_entry i h) ∙ e ∙ symbol_entry j g))

  pub part_occurs : (i : ℕ) → i + 2 < part_total l
      → (n : ℕ) × (1 ≤ n) × (n < list_count l) × ((part_at (part_table l) i ≡ open_part l n) ⊎ ((subtree_at l n ≡ true) × (part_at (part_table l) i ≡ close_part l n)))
  unfolding key_count
  part_occurs i h =
      let n = parts_many in
      let v = get_or (table_keys l false) i 0 in
      let b : get_or (table_keys l false) i 0 < 2 * (list_count l - 1) = key_below l false i (omega arith) in
      let d : live_at l false (get_or (table_keys l false) i 0) ≡ true = key_live l false i (omega arith) in (
        v / 2 + 1,
        omega arith,
        omega arith,
        ⊎_elim
            (λ q.
            let e : v ≡ 2 * (v / 2) = omega arith in
            inl (part_entry i h ∙ ap (key_part l) e ∙ open_key l (v / 2)))
            (λ q.
            let e : v ≡ 2 * (v / 2) + 1 = omega arith in
            inr (sym (live_close l (v / 2)) ∙ ap (live_at l false) (sym e) ∙ d, part_entry i h ∙ ap (key_part l) e ∙ close_key l (v / 2)))
            (lt_or_le (v % 2) 1),
      )

  pub symbol_occurs : (i : ℕ) → i < length (symbol_table l)
      → (n : ℕ) × (1 ≤ n) × (n < list_count l) × ((ident_at l n || literal_at l n) ≡ true) × (get_or (symbol_table l) i 0 ≡ word_of l n 1)
  unfolding key_count
  symbol_occurs i h =
      let n = symbols_many in
      let v = get_or (table_keys l true) i 0 in
      let b : get_or (table_keys l true) i 0 < list_count l - 1 = key_below l true i (omega arith) in
      let d : live_at l true (get_or (table_keys l true) i 0) ≡ true = key_live l true i (omega arith) in
      (v + 1, omega arith, omega arith, sym (live_symbol l v) ∙ d, symbol_entry i h ∙ symbol_word l v)

  -- ---- its count is how often it stands

  alike_same : (u v : ℕ) → alike_at l false u v ≡ same_part (key_part l u) (key_part l v)
  unfolding alike_at
  alike_same u v = refl

  alike_symbol : (u v : ℕ) → alike_at l true u v ≡ eqb (key_word l true u 0) (key_word l true v 0)
  unfolding alike_at
  alike_symbol u v = refl

  pub part_count : (i : ℕ) → i + 2 < part_total l
      → get_or (part_counts l) i 0
      ≡ below l (λ n. same_part (part_at (part_table l) i) (open_part l n)) + below l (λ n. subtree_at l n && same_part (part_at (part_table l) i) (close_part l n))
  unfolding part_counts times_of key_count
  part_count i h =
      let n = parts_many in
      count_at l false i (omega arith)
      ∙ tally_pairs (hits (live_at l false) (alike_at l false) v) (list_count l - 1)
      ∙ ap₂ (λ (x y : ℕ). x + y) (tally_same _ _ (list_count l - 1) (λ m k. opens m)) (tally_same _ _ (list_count l - 1) (λ m k. closes m))
    where
      v : ℕ
      v = get_or (table_keys l false) i 0

      opens : (m : ℕ) → hits (live_at l false) (alike_at l false) v (2 * m) ≡ same_part (part_at (part_table l) i) (open_part l (m + 1))
      opens m = rw (live_open l m) (alike_same v (2 * m) ∙ ap₂ same_part (sym (part_entry i h)) (open_key l m))

      closes : (m : ℕ) → hits (live_at l false) (alike_at l false) v (2 * m + 1) ≡ (subtree_at l (m + 1) && same_part (part_at (part_table l) i) (close_part l (m + 1)))
      closes m = rw (live_close l m) (ap (λ b. subtree_at l (m + 1) && b) (alike_same v (2 * m + 1) ∙ ap₂ same_part (sym (part_entry i h)) (close_key l m)))

  pub symbol_count : (i : ℕ) → i < length (symbol_table l)
      → get_or (symbol_counts l) i 0 ≡ below l (λ n. (ident_at l n || literal_at l n) && eqb (get_or (symbol_table l) i 0) (word_of l n 1))
  unfolding symbol_counts times_of key_count
  symbol_count i h =
      let n = symbols_many in
      count_at l true i (omega arith) ∙ tally_same _ _ (list_count l - 1) (λ m k. stands m)
    where
      v : ℕ
      v = get_or (table_keys l true) i 0

      stands : (m : ℕ) → hits (live_at l true) (alike_at l true) v m
          ≡ ((ident_at l (m + 1) || literal_at l (m + 1)) && eqb (get_or (symbol_table l) i 0) (word_of l (m + 1) 1))
      stands m = ap₂ (λ a b. a && b) (live_symbol l m) (alike_symbol v m ∙ ap₂ eqb (sym (symbol_entry i h)) (symbol_word l m))

  -- ---- the counts add up

  -- to leaves plus twice the subtrees below the root
  pub part_counts_add_up : total (part_counts l) ≡ below l (λ n. not (subtree_at l n)) + 2 * below l (subtree_at l)
  unfolding part_counts key_count
  part_counts_add_up =
      let k = list_count l - 1 in
      let a : tally (λ m. live_at l false (2 * m)) k ≡ k = tally_all (λ m. live_at l false (2 * m)) k (λ m. live_open l m) in
      let b : tally (λ m. live_at l false (2 * m + 1)) k ≡ below l (subtree_at l) = tally_same _ _ k (λ m h. live_close l m) in
      let c : below l (λ n. not (subtree_at l n)) + below l (subtree_at l) ≡ k = tally_not (λ m. subtree_at l (m + 1)) k in
      counts_total l false ∙ tally_pairs (live_at l false) k ∙ omega arith

  -- to idents and literals
  pub symbol_counts_add_up : total (symbol_counts l) ≡ below l (ident_at l) + below l (literal_at l)
  unfolding symbol_counts key_count
  symbol_counts_add_up =
      counts_total l true
      ∙ tally_same (live_at l true) (λ m. ident_at l (m + 1) || literal_at l (m + 1)) (list_count l - 1) (λ m h. live_symbol l m)
      ∙ tally_or (λ m. ident_at l (m + 1)) (λ m. literal_at l (m + 1)) (list_count l - 1) (λ m e. other m (eqb-true (sort l (m + 1)) 1 e))
    where
      other : (m : ℕ) → sort l (m + 1) ≡ 1 → literal_at l (m + 1) ≡ false
      other m e = ne_eqb (sort l (m + 1)) 2 (λ z. absurd (omega arith))
