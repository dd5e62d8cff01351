-- Laws of the table: its keys are stored one behind the other, and the arrays of the gathered keys are ready for it.
use Prim.Native.Nat.{ℕ, zero, suc, ◌+◌, ◌*◌, ◌<◌, ◌≤◌}
use mathlib.Core.Path.{◌≡◌, refl, ap, sym, ◌∙◌}
use mathlib.Core.Bool.{Bool, true, false}
use mathlib.Core.List.{List, [], ◌∷◌, ◌++◌, map, append_assoc}
use native.Mathlib.Omega.{arith}
use native.Mathlib.Numerals.{add-one}
use lib.ListN.{length, get_or, set, take, length-map}
use lib.Seq.{sets, sets-eq, take-suc, take_all, length-take-le}
use lib.Dec.{leb}
use Rattle.std.specs.Prelude.{if◌then◌else◌}
use Rattle.format.specs.Word.{put}
use Rattle.format.specs.Order.{range, before, insert, falling, ordered}
use Rattle.format.specs.Width.{part_size}
use Rattle.format.proofs.OrderLaw.{AllIn, all_mono, map_at, falling_bound, ordered_length, ordered_lt}
use Rattle.format.specs.MakeTables.{key_count, key_words, limit_of, keys_of, times_of, table_keys, words_of, table_words, table_counts}
use Rattle.format.proofs.Put.{put_length}
use Rattle.format.proofs.TableKeys.{keys_many}
use Rattle.pack.proofs.Store.{put_put, put_none}
use Rattle.keys.specs.Keys.{live_in, place_in}
use Rattle.distinct.specs.Gathered.{Filled}
use Rattle.order.specs.Arrange.{get_d0, Holds}
use Rattle.entries.specs.Runs.{key_at, Ready, Stored, Made}
use Rattle.keys.specs.Runs.{Room}
use Rattle.keys.proofs.RunLaw.{in_step, in_mono}
use Rattle.distinct.proofs.GatherReturns.{filled_number}

-- ---- one key behind the others

words_append : (l : List ℕ) (s : Bool) (xs : List ℕ) (v : ℕ) → words_of l s (xs ++ v ∷ []) ≡ words_of l s xs ++ key_words l s v
unfolding words_of
words_append l true [] v = refl
words_append l false [] v = refl
words_append l s (x ∷ xs) v =
    ap (λ (w : List ℕ). key_words l s x ++ w) (words_append l s xs v) ∙ sym (append_assoc (key_words l s x) (words_of l s xs) (key_words l s v))

pub words_length : (l : List ℕ) (s : Bool) (xs : List ℕ) → length (words_of l s xs) ≡ place_in s (length xs)
unfolding words_of place_in
words_length l true [] = refl
words_length l false [] = refl
words_length l true (x ∷ xs) = ap suc (words_length l true xs)
words_length l false (x ∷ xs) = let e : length (words_of l false xs) ≡ part_size * length xs = words_length l false xs in omega arith

map_append : (f : ℕ → ℕ) (xs : List ℕ) (v : ℕ) → map f (xs ++ v ∷ []) ≡ map f xs ++ f v ∷ []
map_append f [] v = refl
map_append f (x ∷ xs) v = ap (λ (w : List ℕ). f x ∷ w) (map_append f xs v)

take_more : (ks : List ℕ) (k : ℕ) → k < length ks → take (k + 1) ks ≡ take k ks ++ get_or ks k 0 ∷ []
take_more ks k h = rw (add-one k) (take-suc ks k 0 h)

-- words behind those that stand at the front of a run
front_more : (b xs ys : List ℕ) (at : ℕ) → length xs ≡ at → at + length ys ≤ length b → sets (put b 0 xs) at ys ≡ put b 0 (xs ++ ys)
unfolding put
front_more b xs ys at e h =
    let n : length (put b 0 xs) ≡ length b = put_length b 0 xs (omega arith) in
    let z : 0 + at ≡ at = omega arith in
    sets-eq ys (put b 0 xs) at (omega arith) ∙ ap (λ (j : ℕ). put (put b 0 xs) j ys) (sym z) ∙ put_put b 0 at xs ys e (omega arith)

module _ (l : List ℕ) (s : Bool) (w w' t t' : List ℕ) (R : Room l s w t) where
  pub stored_none : Stored l s 0 w w t t
  unfolding words_of
  stored_none = record { words = sym (put_none w 0); tallies = sym (put_none t 0) }

  module _ (k : ℕ) (S : Stored l s k w w' t t') where
    abbrev ks : List ℕ
    ks = table_keys l s

    pub stored_more : (w₁ t₁ : List ℕ) → k < length (keys_of l s) → w₁ ≡ sets w' (place_in s k) (key_words l s (key_at l s k)) → t₁ ≡ set t' k (times_of l s (key_at l s k))
        → Stored l s (k + 1) w w₁ t t₁
    stored_more w₁ t₁ h ew et =
        let n : length (table_keys l s) ≡ length (keys_of l s) = keys_many l s in
        let lk : length (take k (table_keys l s)) ≡ k = length-take-le k (table_keys l s) (omega arith) in
        let lw : length (words_of l s (take k (table_keys l s))) ≡ place_in s k = words_length l s (take k (table_keys l s)) ∙ ap (place_in s) lk in
        let lt : length (map (times_of l s) (take k (table_keys l s))) ≡ k = length-map (take k (table_keys l s)) (times_of l s) ∙ lk in
        let room : place_in s k + length (key_words l s (key_at l s k)) ≤ length w =
        omega (arith, in_step s k l (key_at l s k), in_mono s k (length (keys_of l s)) h, R.words) in
        let more : take (k + 1) (table_keys l s) ≡ take k (table_keys l s) ++ key_at l s k ∷ [] = take_more (table_keys l s) k (omega arith) in
        record {
          words = ew ∙ ap (λ (x : List ℕ). sets x (place_in s k) (key_words l s (key_at l s k))) S.words
              ∙ front_more w (words_of l s (take k (table_keys l s))) (key_words l s (key_at l s k)) (place_in s k) lw room
              ∙ ap (put w 0) (sym (words_append l s (take k (table_keys l s)) (key_at l s k)) ∙ ap (words_of l s) (sym more));
          tallies = et ∙ ap (λ (x : List ℕ). set x k (times_of l s (key_at l s k))) S.tallies
              ∙ front_more t (map (times_of l s) (take k (table_keys l s))) (times_of l s (key_at l s k) ∷ []) k lt (omega (arith, R.tallies))
              ∙ ap (put t 0) (sym (map_append (times_of l s) (take k (table_keys l s)) (key_at l s k)) ∙ ap (map (times_of l s)) (sym more));
        }

    pub stored_all : (p : ℕ) → p ≡ length (keys_of l s) → p ≤ k → Made l s p w w' t t'
    unfolding table_words table_counts
    stored_all p e h =
        let n : length (table_keys l s) ≡ length (keys_of l s) = keys_many l s in
        let a : take k (table_keys l s) ≡ table_keys l s = take_all k (table_keys l s) (omega arith) in
        record { number = e; words = S.words ∙ rw a; tallies = S.tallies ∙ rw a }

-- ---- the arrays are ready

before_same : (f g : ℕ → ℕ) (x y : ℕ) → f x ≡ g x → f y ≡ g y → before f y x ≡ before g y x
unfolding before
before_same f g x y e d = rw (e, d)

insert_same : (f g : ℕ → ℕ) (x : ℕ) (l : List ℕ) → f x ≡ g x → AllIn (λ y. f y ≡ g y) l → insert f x l ≡ insert g x l
unfolding insert AllIn
insert_same f g x [] e a = refl
insert_same f g x (y ∷ ys) e a = rw (before_same f g x y e a.0, insert_same f g x ys e a.1)

falling_same : (f g : ℕ → ℕ) (m i : ℕ) → ((r : ℕ) → r < i + m → f r ≡ g r) → falling f m i ≡ falling g m i
unfolding falling
falling_same f g zero i h = refl
falling_same f g (suc m) i h =
    let ih : falling f m (i + 1) ≡ falling g m (i + 1) = falling_same f g m (i + 1) (λ r k. h r (omega arith)) in
    insert_same f g i (falling f m (i + 1)) (h i (omega arith))
    (all_mono (λ y. (i + 1 ≤ y) × (y < i + 1 + m)) (λ y. f y ≡ g y) (falling f m (i + 1)) (λ y k. h y (omega (arith, k.1))) (falling_bound f m (i + 1)))
    ∙ ap (insert g i) ih

ordered_same : (f g : ℕ → ℕ) (limit p : ℕ) → ((r : ℕ) → r < p → f r ≡ g r) → ordered f limit p ≡ ordered g limit p
unfolding ordered
ordered_same f g limit p h = ap (λ (o : List ℕ). if leb p limit then range p 0 else o) (falling_same f g p 0 (λ r k. h r (omega arith)))

module _ (l : List ℕ) (s : Bool) (N p : ℕ) (t f c : List ℕ) (F : Filled l s 1 0 N (key_count l s) p t f c) where
  as_many : p ≡ length (keys_of l s)
  as_many = filled_number l s N p t f c F

  abbrev cnt : ℕ → ℕ
  cnt r = times_of l s (get_or (keys_of l s) r 0)

  same_counts : (r : ℕ) → r < p → get_d0 c r ≡ cnt r
  unfolding keys_of times_of live_in
  same_counts r h = F.gathered.counts r h

  same_keys : (r : ℕ) → r < p → get_or f r 0 ≡ get_or (keys_of l s) r 0
  unfolding keys_of live_in
  same_keys r h = F.gathered.keys r h

  abbrev os : List ℕ
  os = ordered cnt (limit_of s) (length (keys_of l s))

  pub ready : (o : List ℕ) → Holds o (ordered (get_d0 c) (limit_of s) p) p → Ready l s p f c o
  unfolding Holds table_keys
  ready o H =
      let same : ordered (get_d0 c) (limit_of s) p ≡ os = ordered_same (get_d0 c) cnt (limit_of s) p same_counts ∙ ap (ordered cnt (limit_of s)) as_many in
      let lo : length os ≡ p = ordered_length cnt (limit_of s) (length (keys_of l s)) ∙ sym as_many in
      let e : (k : ℕ) → k < p → get_or o k 0 ≡ get_or os k 0 = λ k h. H k h ∙ ap (λ (x : List ℕ). get_or x k 0) same in
      let b : (k : ℕ) → k < p → get_or o k 0 < p = λ k h. rw (H k h) (ordered_lt (get_d0 c) (limit_of s) p k h) in
      let m : (k : ℕ) → k < p → get_or (keys_of l s) (get_or o k 0) 0 ≡ get_or (map (λ r. get_or (keys_of l s) r 0) os) k 0 = λ k h.
      ap (λ (x : ℕ). get_or (keys_of l s) x 0) (e k h) ∙ sym (map_at (λ r. get_or (keys_of l s) r 0) os k (omega arith)) in
      record {
        number = as_many;
        keys = λ k h. same_keys (get_or o k 0) (b k h) ∙ m k h;
        counts = λ k h. same_counts (get_or o k 0) (b k h) ∙ ap (times_of l s) (m k h);
      }
