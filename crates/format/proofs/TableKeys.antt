-- The keys of a table, of either kind: every key of the list is there once, with its count, in the order that is said.
use Prim.Native.Nat.{ℕ, ◌+◌, ◌<◌, ◌≤◌}
use mathlib.Core.Path.{◌≡◌, refl, ap, sym, ◌∙◌}
use mathlib.Core.Bool.{Bool, true}
use mathlib.Core.Logic.{◌⊎◌}
use mathlib.Core.List.{List, [], ◌∷◌, map}
use native.Mathlib.Omega.{arith}
use lib.ListN.{length, get_or, length-map}
use Rattle.format.specs.Distinct.{tally}
use Rattle.format.specs.Order.{range, falling, ordered}
use Rattle.format.proofs.OrderLaw.{Sorted, all_mono, map_at, amount_map, range_map, falling_bound, falling_sorted, before_cases, sorted_before, sorted_only, sorted_map, ordered_few, ordered_many, ordered_length, ordered_lt, ordered_amount, ordered_total, ordered_member, ordered_apart}
use Rattle.format.proofs.Tally.{amount, tally_most, total}
use Rattle.format.specs.MakeTables.{key_count, live_at, key_words, alike_at, limit_of, keys_of, times_of, table_keys, table_counts}
use Rattle.format.proofs.NewsLaw.{news_bound, news_live, news_rising, news_most, news_place, news_apart, news_first, counts_add_up}
use Rattle.format.proofs.KeyLaw.{words_alike, likeness}

module _ (l : List ℕ) (s : Bool) where
  abbrev key : ℕ → ℕ
  key i = get_or (table_keys l s) i 0

  abbrev count : ℕ → ℕ
  count i = get_or (table_counts l s) i 0

  -- the count of a rank
  abbrev rank_count : ℕ → ℕ
  rank_count r = times_of l s (get_or (keys_of l s) r 0)

  abbrev ranks : List ℕ
  ranks = ordered rank_count (limit_of s) (length (keys_of l s))

  abbrev by_rank : ℕ → ℕ
  by_rank r = get_or (keys_of l s) r 0

  pub keys_many : length (table_keys l s) ≡ length (keys_of l s)
  unfolding table_keys
  keys_many = length-map ranks by_rank ∙ ordered_length rank_count (limit_of s) (length (keys_of l s))

  rank : (i : ℕ) → i < length (table_keys l s) → (key i ≡ by_rank (get_or ranks i 0)) × (get_or ranks i 0 < length (keys_of l s))
  unfolding table_keys
  rank i h =
      let n = keys_many in
      let o : length ranks ≡ length (keys_of l s) = ordered_length rank_count (limit_of s) (length (keys_of l s)) in
      (map_at by_rank ranks i (omega arith), ordered_lt rank_count (limit_of s) (length (keys_of l s)) i (omega arith))

  -- each is a key of the list
  pub key_below : (i : ℕ) → i < length (table_keys l s) → key i < key_count l s
  unfolding keys_of
  key_below i h = let r = rank i h in rw r.0 (news_bound (live_at l s) (alike_at l s) (key_count l s) (get_or ranks i 0) r.1)

  pub key_live : (i : ℕ) → i < length (table_keys l s) → live_at l s (key i) ≡ true
  unfolding keys_of
  key_live i h = let r = rank i h in rw r.0 (news_live (live_at l s) (alike_at l s) (key_count l s) (get_or ranks i 0) r.1)

  -- the first one like it
  pub key_first : (i u : ℕ) → i < length (table_keys l s) → u < key i → live_at l s u ≡ true → alike_at l s u (key i) ≡ true → ⊥
  unfolding keys_of
  key_first i u h g d a =
      let r = rank i h in
      news_first (live_at l s) (alike_at l s) (likeness l s) (key_count l s) (get_or ranks i 0) u r.1 (rw r.0 at g) d (rw r.0 at a)

  -- every key of the list has a place
  pub key_place_lem : (v : ℕ) → v < key_count l s → live_at l s v ≡ true → (i : ℕ) × (i < length (table_keys l s)) × (alike_at l s (key i) v ≡ true)
  unfolding keys_of
  key_place_lem v h d =
      let z = news_place (live_at l s) (alike_at l s) (likeness l s) (key_count l s) v h d in
      let m = ordered_member rank_count (limit_of s) (length (keys_of l s)) z.0 z.1 in
      let n = keys_many in
      let g : m.0 < length (table_keys l s) = omega (arith, m.1) in
      let r = rank m.0 g in
      (m.0, g, rw (r.0, m.2) z.2)

  -- no two are alike
  pub key_apart : (i j : ℕ) → i < length (table_keys l s) → j < length (table_keys l s) → alike_at l s (key i) (key j) ≡ true → i ≡ j
  unfolding keys_of
  key_apart i j h g a =
      let n = keys_many in
      let p = rank i h in
      let q = rank j g in
      ordered_apart rank_count (limit_of s) (length (keys_of l s)) i j (omega arith) (omega arith)
      (news_apart (live_at l s) (alike_at l s) (likeness l s) (key_count l s) (get_or ranks i 0) (get_or ranks j 0) p.1 q.1 (rw (p.0, q.0) at a))

  pub key_words_apart : (i j : ℕ) → i < length (table_keys l s) → j < length (table_keys l s) → key_words l s (key i) ≡ key_words l s (key j) → i ≡ j
  key_words_apart i j h g e = key_apart i j h g (words_alike l s (key i) (key j) e)

  -- ---- counts

  pub counts_many : length (table_counts l s) ≡ length (table_keys l s)
  unfolding table_counts
  counts_many = length-map (table_keys l s) (times_of l s)

  pub count_at : (i : ℕ) → i < length (table_keys l s) → count i ≡ times_of l s (key i)
  unfolding table_counts
  count_at i h = map_at (times_of l s) (table_keys l s) i h

  map_map : (f g : ℕ → ℕ) (xs : List ℕ) → map f (map g xs) ≡ map (λ x. f (g x)) xs
  map_map f g [] = refl
  map_map f g (x ∷ xs) = ap (λ (r : List ℕ). f (g x) ∷ r) (map_map f g xs)

  -- they add up to the number of keys
  pub counts_total : total (table_counts l s) ≡ tally (live_at l s) (key_count l s)
  unfolding table_counts table_keys keys_of times_of
  counts_total =
      let p = length (keys_of l s) in
      ap total (map_map (times_of l s) by_rank ranks)
      ∙ ordered_total rank_count (limit_of s) p rank_count
      ∙ ap total (sym (map_map (times_of l s) by_rank (range p 0)) ∙ ap (map (times_of l s)) (range_map (keys_of l s)))
      ∙ counts_add_up (live_at l s) (alike_at l s) (likeness l s) (key_count l s) (key_count l s) (omega arith)

  -- ---- order

  rising : (r t : ℕ) → r < t → t < length (keys_of l s) → by_rank r < by_rank t
  unfolding keys_of
  rising r t h g = news_rising (live_at l s) (alike_at l s) (key_count l s) r t h g

  -- up to the limit the order is that of first appearance
  pub in_turn : length (keys_of l s) ≤ limit_of s → table_keys l s ≡ keys_of l s
  unfolding table_keys
  in_turn h = rw (ordered_few rank_count (limit_of s) (length (keys_of l s)) h) (range_map (keys_of l s))

  pub entries_in_turn : length (table_keys l s) ≤ limit_of s → (i j : ℕ) → i < j → j < length (table_keys l s) → key i < key j
  entries_in_turn h i j k g =
      let n = keys_many in
      let e = in_turn (omega arith) in
      rw e (rising i j k (omega arith))

  -- beyond it the order is by falling count, ties by first appearance
  pub by_count : limit_of s < length (keys_of l s) → Sorted (times_of l s) (table_keys l s)
  unfolding table_keys
  by_count h =
      let p = length (keys_of l s) in
      rw (ordered_many rank_count (limit_of s) p h)
      (sorted_map (times_of l s) by_rank p rising (falling rank_count p 0)
      (all_mono (λ y. (0 ≤ y) × (y < 0 + p)) (λ y. y < p) (falling rank_count p 0) (λ y k. omega (arith, k.1)) (falling_bound rank_count p 0))
      (falling_sorted rank_count p 0))

  pub entries_by_count : limit_of s < length (table_keys l s) → (i j : ℕ) → i < j → j < length (table_keys l s)
      → (count j < count i) ⊎ ((count i ≡ count j) × (key i < key j))
  entries_by_count h i j k g =
      let n = keys_many in
      let o = by_count (omega arith) in
      rw (count_at i (omega arith), count_at j g) (before_cases (times_of l s) (key i) (key j) (sorted_before (times_of l s) (table_keys l s) i j o k g))

  -- each distinct key stands in the table once
  pub same_keys : (f : ℕ → Bool) → amount f (table_keys l s) ≡ amount f (keys_of l s)
  unfolding table_keys
  same_keys f =
      let p = length (keys_of l s) in
      amount_map f by_rank ranks
      ∙ ordered_amount rank_count (limit_of s) p (λ r. f (by_rank r))
      ∙ sym (amount_map f by_rank (range p 0))
      ∙ ap (amount f) (range_map (keys_of l s))

  -- and no other list of them is so ordered
  pub only_order : limit_of s < length (keys_of l s) → (ks : List ℕ) → Sorted (times_of l s) ks
      → ((f : ℕ → Bool) → amount f ks ≡ amount f (keys_of l s)) → ks ≡ table_keys l s
  only_order h ks o e = sorted_only (times_of l s) ks (table_keys l s) o (by_count h) (λ f. e f ∙ sym (same_keys f))

  -- ---- sizes

  pub keys_most : length (table_keys l s) ≤ key_count l s
  unfolding keys_of
  keys_most =
      let n = keys_many in
      let a = news_most (live_at l s) (alike_at l s) (key_count l s) in
      let b = tally_most (live_at l s) (key_count l s) in
      omega arith
