-- Pairs in order are the table's keys and counts, and the numbers give way to the keys' words.
use Prim.Native.Nat.{ℕ, zero, suc, ◌+◌, ◌-◌, ◌<◌, ◌≤◌}
use mathlib.Core.Path.{◌≡◌, refl, ap, sym, ◌∙◌}
use mathlib.Core.Bool.{Bool, true, false, not}
use mathlib.Core.Logic.{⊎_elim}
use mathlib.Core.List.{List, [], ◌∷◌, ◌++◌, append_assoc}
use native.Mathlib.Omega.{arith}
use lib.ListN.{length, get_or, take, drop, length-drop, get_or-append}
use lib.Seq.{sets, sets-eq, drop-cons, drop_at, get_or-take, get_or-drop, ext_get_or, length-take-le, length-sets, drop-length}
use lib.Dec.{eqb}
use borrow.Author.Tests.{eqb-true, eq-eqb}
use Rattle.std.specs.Prelude.{if◌then◌else◌}
use Rattle.format.specs.Word.{put}
use Rattle.format.specs.Distinct.{tally}
use Rattle.format.specs.Order.{before}
use Rattle.format.proofs.OrderLaw.{AllIn, Sorted, before_cases, before_more, before_tie}
use Rattle.format.proofs.Tally.{amount, lt_or_le, tally_none, amount_some, amount_one}
use Rattle.format.specs.MakeTables.{key_count, live_at, alike_at, key_words, limit_of, keys_of, times_of, table_keys, words_of, table_words, table_counts}
use Rattle.format.proofs.Each.{true_false}
use Rattle.format.proofs.NewsLaw.{news_rising}
use Rattle.format.proofs.TableRuns.{run_length, run_front, run_behind}
use Rattle.format.proofs.TableKeys.{keys_many, in_turn, only_order, count_at, counts_many}
use Rattle.keys.specs.Keys.{place_in}
use Rattle.entries.specs.Runs.{key_at}
use Rattle.keys.specs.Runs.{Behind}
use Rattle.order.specs.Sort.{sooner, Rising, Shuffled}
use Rattle.distinct.specs.Pairs.{Paired}
use Rattle.entries.specs.Settle.{Settled, Expanding}
use Rattle.keys.proofs.RunLaw.{in_step, in_mono, in_least}
use Rattle.distinct.proofs.Amounts.{tally_take}
use Rattle.entries.proofs.TableLaw.{words_length}

-- ---- tests that places pass

-- a test that no place passes
none_pass : (h : ℕ → Bool) (n : ℕ) → tally h n ≡ 0 → (k : ℕ) → k < n → h k ≡ false
unfolding tally
none_pass h zero e k g = absurd (omega arith)
none_pass h (suc n) e k g = go (h n) refl e (none_pass h n)
  where
    go : (b : Bool) → h n ≡ b → (if b then tally h n + 1 else tally h n) ≡ 0 → (tally h n ≡ 0 → (j : ℕ) → j < n → h j ≡ false) → h k ≡ false
    go true q e ih = absurd (omega arith)
    go false q e ih = ⊎_elim (λ y. ih e k y) (λ y. let i : k ≡ n = omega arith in rw i q) (lt_or_le k n)

one_pass : (h : ℕ → Bool) (n k : ℕ) → k < n → h k ≡ true → 1 ≤ tally h n
unfolding tally
one_pass h zero k g y = absurd (omega arith)
one_pass h (suc n) k g y = go (h n) refl (one_pass h n k)
  where
    go : (b : Bool) → h n ≡ b → (k < n → h k ≡ true → 1 ≤ tally h n) → 1 ≤ (if b then tally h n + 1 else tally h n)
    go true e ih = omega arith
    go false e ih = ⊎_elim (λ z. ih z y) (λ z. let i : k ≡ n = omega arith in true_false (h n) (rw i at y) e) (lt_or_le k n)

-- two places that pass make two
two_pass : (h : ℕ → Bool) (n i j : ℕ) → i < j → j < n → h i ≡ true → h j ≡ true → 2 ≤ tally h n
unfolding tally
two_pass h zero i j a b p q = absurd (omega arith)
two_pass h (suc n) i j a b p q = go (h n) refl (two_pass h n i j a)
  where
    go : (b : Bool) → h n ≡ b → (j < n → h i ≡ true → h j ≡ true → 2 ≤ tally h n) → 2 ≤ (if b then tally h n + 1 else tally h n)
    go true e ih = let z : 1 ≤ tally h n = one_pass h n i (omega arith) p in omega arith
    go false e ih = ⊎_elim (λ z. ih z p q) (λ z. let w : j ≡ n = omega arith in true_false (h n) (rw w at q) e) (lt_or_le j n)

-- of two numbers one stands before the other
before_flip : (count : ℕ → ℕ) (x y : ℕ) → (x ≡ y → ⊥) → before count y x ≡ false → before count x y ≡ true
before_flip count x y d e =
    ⊎_elim
    (λ h. true_false (before count y x) (before_more count y x h) e)
    (λ h. ⊎_elim
    (λ g. before_more count x y g)
    (λ g. let q : count x ≡ count y = omega arith in
    ⊎_elim (λ k. before_tie count x y q k) (λ k. true_false (before count y x) (before_tie count y x (sym q) (below k)) e) (lt_or_le x y))
    (lt_or_le (count y) (count x)))
    (lt_or_le (count x) (count y))
  where
    below : y ≤ x → y < x
    below k = omega arith

before_trans : (count : ℕ → ℕ) (a b c : ℕ) → before count a b ≡ true → before count b c ≡ true → before count a c ≡ true
before_trans count a b c h g =
    ⊎_elim
    (λ p. ⊎_elim (λ q. before_more count a c (omega arith)) (λ q. before_more count a c (omega (arith, q.0))) (before_cases count b c g))
    (λ p. ⊎_elim (λ q. before_more count a c (omega (arith, p.0))) (λ q. before_tie count a c (p.0 ∙ q.0) (omega (arith, p.1, q.1))) (before_cases count b c g))
    (before_cases count a b h)

all_from : (Q : ℕ → Type 0) (xs : List ℕ) → ((i : ℕ) → i < length xs → Q (get_or xs i 0)) → AllIn Q xs
unfolding AllIn
all_from Q [] h = tt
all_from Q (x ∷ xs) h = (h 0 (omega arith), all_from Q xs (λ i k. h (suc i) (omega arith)))

sorted_from : (count : ℕ → ℕ) (xs : List ℕ) → ((i j : ℕ) → i < j → j < length xs → before count (get_or xs i 0) (get_or xs j 0) ≡ true) → Sorted count xs
unfolding Sorted
sorted_from count [] h = tt
sorted_from count (x ∷ xs) h =
    (all_from (λ y. before count x y ≡ true) xs (λ i k. h 0 (suc i) (omega arith) (omega arith)), sorted_from count xs (λ i j a b. h (suc i) (suc j) (omega arith) (omega arith)))

not_false : (b : Bool) → not b ≡ false → b ≡ true
not_false true e = refl
not_false false e = true_false true refl e

keys_rising : (l : List ℕ) (s : Bool) (a b : ℕ) → a < b → b < length (keys_of l s) → get_or (keys_of l s) a 0 < get_or (keys_of l s) b 0
unfolding keys_of
keys_rising l s a b h g = news_rising (live_at l s) (alike_at l s) (key_count l s) a b h g

-- ---- pairs in order are the table's

module _ (l : List ℕ) (s : Bool) (p : ℕ) (w t : List ℕ) (P : Paired l s p w t) where
  -- a number stands once among the distinct keys
  once : (x : ℕ) → amount (λ y. eqb y x) (keys_of l s) ≤ 1
  once x = ⊎_elim (λ z. omega arith) (λ z. here (amount_some (λ y. eqb y x) (keys_of l s) z)) (lt_or_le (amount (λ y. eqb y x) (keys_of l s)) 1)
    where
      here : (r : ℕ) × (r < length (keys_of l s)) × (eqb (get_or (keys_of l s) r 0) x ≡ true) → amount (λ y. eqb y x) (keys_of l s) ≤ 1
      here (r, g, e) =
          let m : amount (λ y. eqb y x) (keys_of l s) ≡ 1 = amount_one (λ y. eqb y x) (keys_of l s) r g e (λ q k d. only q k (eqb-true _ _ d)) in
          omega arith
        where
          rise : (a b : ℕ) → a < b → b < length (keys_of l s) → get_or (keys_of l s) a 0 < get_or (keys_of l s) b 0
          rise a b h g = keys_rising l s a b h g

          only : (q : ℕ) → q < length (keys_of l s) → get_or (keys_of l s) q 0 ≡ x → q ≡ r
          only q k d =
              let f : get_or (keys_of l s) r 0 ≡ x = eqb-true _ _ e in
              ⊎_elim (λ z. let y = rise q r z g in absurd (omega arith))
              (λ z. ⊎_elim (λ u. let y = rise r q u k in absurd (omega arith)) (λ u. let v : q ≡ r = omega arith in v) (lt_or_le r q))
              (lt_or_le q r)

  distinct : (i j : ℕ) → i < j → j < p → get_or w i 0 ≡ get_or w j 0 → ⊥
  distinct i j a b e =
      let m : tally (λ k. eqb (get_or w k 0) (get_or w j 0)) p ≡ amount (λ y. eqb y (get_or w j 0)) (keys_of l s) = P.keys (λ y. eqb y (get_or w j 0)) in
      let n : 2 ≤ tally (λ k. eqb (get_or w k 0) (get_or w j 0)) p = two_pass (λ k. eqb (get_or w k 0) (get_or w j 0)) p i j a b (eq-eqb _ _ e) (eq-eqb (get_or w j 0) (get_or w j 0) refl) in
      let o : amount (λ y. eqb y (get_or w j 0)) (keys_of l s) ≤ 1 = once (get_or w j 0) in
      absurd (omega arith)

  -- the order of two pairs is that of their keys
  sooner_is : (i j : ℕ) → i < p → j < p → sooner w t i j ≡ before (times_of l s) (get_or w i 0) (get_or w j 0)
  unfolding sooner before
  sooner_is i j a b = rw (P.counts i a, P.counts j b)

  -- neighbours in order
  next_before : Rising w t 1 p → (k : ℕ) → k + 1 < p → before (times_of l s) (get_or w k 0) (get_or w (k + 1) 0) ≡ true
  next_before R k h =
      let e : k + 1 - 1 ≡ k = omega arith in
      let f : before (times_of l s) (get_or w (k + 1) 0) (get_or w k 0) ≡ false =
      sym (sooner_is (k + 1) k h (omega arith)) ∙ (rw e at (R.rising (k + 1) (omega arith) h)) in
      let d : get_or w k 0 ≡ get_or w (k + 1) 0 → ⊥ = distinct k (k + 1) (omega arith) h in
      before_flip (times_of l s) (get_or w k 0) (get_or w (k + 1) 0) d f

  -- any two in order
  all_before : Rising w t 1 p → (i d : ℕ) → i + suc d < p → before (times_of l s) (get_or w i 0) (get_or w (i + suc d) 0) ≡ true
  all_before R i zero h = let e : i + suc 0 ≡ i + 1 = omega arith in rw e (next_before R i (omega arith))
  all_before R i (suc d) h =
      let e : i + suc (suc d) ≡ i + suc d + 1 = omega arith in
      rw e (before_trans (times_of l s) (get_or w i 0) (get_or w (i + suc d) 0) (get_or w (i + suc d + 1) 0) (all_before R i d (omega arith)) (next_before R (i + suc d) (omega arith)))

  pub settled_many : Rising w t 1 p → limit_of s < p → p ≤ length w → Settled l s p w t
  settled_many R m h =
      let n : length (take p w) ≡ p = length-take-le p w h in
      let o : Sorted (times_of l s) (take p w) = sorted_from (times_of l s) (take p w) (λ i j a b.
      let q : i + suc (j - suc i) ≡ j = omega arith in
      let z : before (times_of l s) (get_or w i 0) (get_or w j 0) ≡ true = rw q at (all_before R i (j - suc i) (omega arith)) in
      rw (get_or-take p w i 0 (omega arith), get_or-take p w j 0 (omega arith)) z) in
      let k : take p w ≡ table_keys l s = only_order l s (omega (arith, P.number)) (take p w) o (λ f. tally_take f w p h ∙ P.keys f) in
      let key : (k : ℕ) → k < p → get_or w k 0 ≡ key_at l s k = λ j g. sym (get_or-take p w j 0 g) ∙ ap (λ (x : List ℕ). get_or x j 0) k in
      record { number = P.number; keys = key; counts = λ j g. P.counts j g ∙ ap (times_of l s) (key j g) }

  pub settled_few : p ≤ limit_of s → Settled l s p w t
  settled_few h =
      let e : table_keys l s ≡ keys_of l s = in_turn l s (omega (arith, P.number)) in
      let key : (k : ℕ) → k < p → get_or w k 0 ≡ key_at l s k = λ j g. P.turn h j g ∙ ap (λ (x : List ℕ). get_or x j 0) (sym e) in
      record { number = P.number; keys = key; counts = λ j g. P.counts j g ∙ ap (times_of l s) (key j g) }

  -- in another order they are still the keys and their counts
  pub paired_shuffled : (w' t' : List ℕ) → Shuffled p w w' t t' → limit_of s < p → Paired l s p w' t'
  paired_shuffled w' t' S m =
      let none : tally (λ i. not (eqb (get_or t i 0) (times_of l s (get_or w i 0)))) p ≡ 0 =
      tally_none (λ i. not (eqb (get_or t i 0) (times_of l s (get_or w i 0)))) p (λ i h. simp (eq-eqb _ _ (P.counts i h))) in
      let all : tally (λ i. not (eqb (get_or t' i 0) (times_of l s (get_or w' i 0)))) p ≡ 0 =
      S.pairs (λ a b. not (eqb b (times_of l s a))) ∙ none in
      record {
        number = P.number;
        keys = λ f. S.pairs (λ a b. f a) ∙ P.keys f;
        counts = λ k h. eqb-true _ _ (not_false (eqb (get_or t' k 0) (times_of l s (get_or w' k 0)))
            (none_pass (λ i. not (eqb (get_or t' i 0) (times_of l s (get_or w' i 0)))) p all k h));
        turn = λ h. absurd (omega arith);
      }

-- ---- the numbers give way to the words

in_zero : (s : Bool) → place_in s 0 ≡ 0
unfolding place_in
in_zero true = refl
in_zero false = refl

drop_same : (n : ℕ) (a b : List ℕ) → length a ≡ length b → ((i : ℕ) → n ≤ i → get_or a i 0 ≡ get_or b i 0) → drop n a ≡ drop n b
drop_same n a b e h =
    ext_get_or 0 (drop n a) (drop n b) (length-drop n a ∙ ap (λ (x : ℕ). x - n) e ∙ sym (length-drop n b))
    (λ i g. get_or-drop n a i 0 ∙ h (n + i) (omega arith) ∙ sym (get_or-drop n b i 0))

-- a run that begins with vs does not turn on what stood there
pub put_behind : (p : ℕ) (b b' vs : List ℕ) → Behind p b b' → p ≤ length vs → put b' 0 vs ≡ put b 0 vs
unfolding put
put_behind p b b' vs B h =
    ap (λ (x : List ℕ). vs ++ x) (drop_same (0 + length vs) b' b B.size (λ i g. B.rest i (omega arith)))

module _ (l : List ℕ) (s : Bool) (p : ℕ) where
  pub expand_start : (w t : List ℕ) → Settled l s p w t → Expanding l s p p w w
  unfolding words_of
  expand_start w t S =
      let n : length (table_keys l s) ≡ p = keys_many l s ∙ sym S.number in
      let d : drop p (table_keys l s) ≡ [] = ap (λ (x : ℕ). drop x (table_keys l s)) (sym n) ∙ drop-length (table_keys l s) in
      record { size = refl; front = S.keys; behind = rw d }

  module _ (b w w' : List ℕ) (k : ℕ) (E : Expanding l s p k b w) where
    pub expand_step : (x v : ℕ) → p ≡ length (keys_of l s) → place_in s p ≤ length b → 0 < k → k ≤ p → x ≡ get_or w (k - 1) 0 → v ≡ x
        → w' ≡ sets w (place_in s (k - 1)) (key_words l s v) → Expanding l s p (k - 1) b w'
    unfolding words_of
    expand_step x v n room pos most ex ev ew =
        let j : k - 1 + 1 ≡ k = omega arith in
        let j' : suc (k - 1) ≡ k = omega arith in
        let key : v ≡ key_at l s (k - 1) = ev ∙ ex ∙ E.front (k - 1) (omega arith) in
        let m : length (table_keys l s) ≡ p = keys_many l s ∙ sym n in
        let step : place_in s (k - 1) + length (key_words l s v) ≡ place_in s k = in_step s (k - 1) l v ∙ ap (place_in s) j in
        let most' : place_in s k ≤ place_in s p = rw j at (in_mono s (k - 1) p (omega arith)) in
        let fit : place_in s (k - 1) + length (key_words l s v) ≤ length w = omega (arith, E.size) in
        let is : w' ≡ take (place_in s (k - 1)) w ++ key_words l s v ++ drop (place_in s (k - 1) + length (key_words l s v)) w =
        ew ∙ sets-eq (key_words l s v) w (place_in s (k - 1)) fit in
        let lt : length (take (place_in s (k - 1)) w) ≡ place_in s (k - 1) = length-take-le (place_in s (k - 1)) w (omega arith) in
        record {
          size = ap length ew ∙ length-sets w (place_in s (k - 1)) (key_words l s v) ∙ E.size;
          front = λ i h.
              let g : i < place_in s (k - 1) = let y = in_least s (k - 1) in omega arith in
              ap (λ (y : List ℕ). get_or y i 0) (is ∙ append_assoc (take (place_in s (k - 1)) w) (key_words l s v) (drop (place_in s (k - 1) + length (key_words l s v)) w))
              ∙ get_or-append (take (place_in s (k - 1)) w) (key_words l s v ++ drop (place_in s (k - 1) + length (key_words l s v)) w) 0 i (omega arith)
              ∙ get_or-take (place_in s (k - 1)) w i 0 g
              ∙ E.front i (omega arith);
          behind =
              ap (drop (place_in s (k - 1))) (is ∙ append_assoc (take (place_in s (k - 1)) w) (key_words l s v) (drop (place_in s (k - 1) + length (key_words l s v)) w))
              ∙ drop_at (take (place_in s (k - 1)) w) (key_words l s v ++ drop (place_in s (k - 1) + length (key_words l s v)) w) (place_in s (k - 1)) lt
              ∙ ap (λ (y : ℕ). key_words l s v ++ drop y w) step
              ∙ ap (λ (y : List ℕ). key_words l s v ++ y) E.behind
              ∙ sym (append_assoc (key_words l s v) (words_of l s (drop k (table_keys l s))) (drop (place_in s p) b))
              ∙ ap (λ (y : List ℕ). y ++ drop (place_in s p) b)
              (ap (λ (y : ℕ). key_words l s y ++ words_of l s (drop k (table_keys l s))) key
              ∙ ap (λ (y : ℕ). key_words l s (key_at l s (k - 1)) ++ words_of l s (drop y (table_keys l s))) (sym j')
              ∙ ap (words_of l s) (sym (drop-cons (table_keys l s) (k - 1) 0 (omega arith))));
        }

    pub expand_end : p ≡ length (keys_of l s) → k ≤ 0 → w ≡ put b 0 (table_words l s)
    unfolding put table_words
    expand_end n h =
        let z : k ≡ 0 = omega arith in
        let m : length (table_keys l s) ≡ p = keys_many l s ∙ sym n in
        let lw : place_in s p ≡ 0 + length (words_of l s (table_keys l s)) =
        ap (place_in s) (sym m) ∙ sym (words_length l s (table_keys l s)) ∙ (let y : length (words_of l s (table_keys l s)) ≡ 0 + length (words_of l s (table_keys l s)) = omega arith in y) in
        let e : drop (place_in s 0) w ≡ words_of l s (drop 0 (table_keys l s)) ++ drop (place_in s p) b = rw z at E.behind in
        ap (λ (y : ℕ). drop y w) (sym (in_zero s)) ∙ e ∙ ap (λ (y : ℕ). words_of l s (table_keys l s) ++ drop y b) lw

  -- ---- the counts

  pub settled_counts : (w t₀ t : List ℕ) → Settled l s p w t → Behind p t₀ t → p ≤ length t₀ → t ≡ put t₀ 0 (table_counts l s)
  settled_counts w t₀ t S B h =
      let n : length (table_counts l s) ≡ p = counts_many l s ∙ keys_many l s ∙ sym S.number in
      let m : length (table_keys l s) ≡ p = keys_many l s ∙ sym S.number in
      ext_get_or 0 t (put t₀ 0 (table_counts l s)) (B.size ∙ sym (run_length t₀ (table_counts l s) (omega arith)))
      (λ i g. ⊎_elim
      (λ k. S.counts i k ∙ sym (count_at l s i (omega arith)) ∙ sym (run_front t₀ (table_counts l s) (omega arith) i (omega arith)))
      (λ k. B.rest i k ∙ sym (run_behind t₀ (table_counts l s) (omega arith) i (omega arith)))
      (lt_or_le i p))

  pub words_most : p ≡ length (keys_of l s) → p ≤ length (table_words l s)
  unfolding table_words
  words_most n =
      let m : length (table_keys l s) ≡ p = keys_many l s ∙ sym n in
      let e : length (words_of l s (table_keys l s)) ≡ place_in s p = words_length l s (table_keys l s) ∙ ap (place_in s) m in
      let k = in_least s p in
      omega arith
