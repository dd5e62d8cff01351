-- Laws for the functions that count the distinct keys.
use Prim.Native.Nat.{ℕ, suc, ◌+◌, ◌<◌, ◌≤◌}
use mathlib.Core.Path.{◌≡◌, refl, sym, ◌∙◌}
use mathlib.Core.Bool.{Bool, true, false, not, ◌&&◌}
use mathlib.Core.Logic.{⊎_elim}
use mathlib.Core.List.{List, [], ◌∷◌, ◌++◌}
use native.Mathlib.Omega.{arith}
use lib.ListN.{length, get_or, length-append}
use lib.Dec.{leb}
use borrow.Author.Tests.{le-leb, leb-true}
use Rattle.std.specs.Prelude.{if◌then◌else◌}
use Rattle.format.specs.Distinct.{any_in, news}
use Rattle.format.specs.MakeTables.{key_count, live_at, alike_at, keys_of}
use Rattle.format.proofs.Each.{and_left, and_right}
use Rattle.format.proofs.Tally.{lt_or_le, any_none, any_at}
use Rattle.format.proofs.KeyLaw.{likeness}
use Rattle.format.proofs.NewsLaw.{news_bound, news_live, news_place}
use Rattle.format.proofs.TableKeys.{keys_many, keys_most}
use Rattle.keys.specs.Keys.{live_in, place_in}
use Rattle.distinct.specs.Count.{same_key, is_met, fresh, ample}

-- ---- with a hash table

-- one class has all keys
pub class_all : (l : List ℕ) (s : Bool) (p : ℕ) → p ≡ length (news (live_in l s 1 0) (alike_at l s) (key_count l s)) → p ≡ length (keys_of l s)
unfolding keys_of live_in
class_all l s p e = e

-- ---- without

module _ (l : List ℕ) (s : Bool) (v : ℕ) where
  -- no key below u is the same
  unfoldable pub Unmet : ℕ → Type 0
  Unmet u = (i : ℕ) → i < u → same_key l s i v ≡ false

  pub unmet_none : Unmet 0
  unfolding Unmet
  unmet_none i h = absurd (omega arith)

  pub unmet_more : (u : ℕ) (b : Bool) → Unmet u → b ≡ same_key l s u v → b ≡ false → Unmet (u + 1)
  unfolding Unmet
  unmet_more u b U e h i g = ⊎_elim (λ k. U i k) (λ k. let z : i ≡ u = omega arith in rw z (sym e ∙ h)) (lt_or_le i u)

  pub met_here : (u : ℕ) (b : Bool) → u < v → b ≡ same_key l s u v → b ≡ true → true ≡ is_met l s v
  unfolding same_key is_met
  met_here u b h e k =
      let d = and_left (live_at l s u) (alike_at l s u v) (sym e ∙ k) in
      let a = and_right (live_at l s u) (alike_at l s u v) (sym e ∙ k) in
      let z = news_place (live_at l s) (alike_at l s) (likeness l s) v u h d in
      sym (any_at (λ x. alike_at l s x v) (news (live_at l s) (alike_at l s) v) z.0 z.1
      ((likeness l s).chain (get_or (news (live_at l s) (alike_at l s) v) z.0 0) u v z.2 a))

  pub met_none : (u : ℕ) → Unmet u → v ≤ u → false ≡ is_met l s v
  unfolding Unmet same_key is_met
  met_none u U h =
      sym (any_none (λ x. alike_at l s x v) (news (live_at l s) (alike_at l s) v) (λ r g.
      let b : get_or (news (live_at l s) (alike_at l s) v) r 0 < v = news_bound (live_at l s) (alike_at l s) v r g in
      let d : live_at l s (get_or (news (live_at l s) (alike_at l s) v) r 0) ≡ true = news_live (live_at l s) (alike_at l s) v r g in
      let y : (live_at l s (get_or (news (live_at l s) (alike_at l s) v) r 0) && alike_at l s (get_or (news (live_at l s) (alike_at l s) v) r 0) v) ≡ false =
      U (get_or (news (live_at l s) (alike_at l s) v) r 0) (omega arith) in
      simp d at y))

pub ruleset fresh_cases = (unmet_none, unmet_more, met_here, met_none)

abbrev pub news_length : List ℕ → Bool → ℕ → ℕ
news_length l s v = length (news (live_at l s) (alike_at l s) v)

fresh_step : (l : List ℕ) (s : Bool) (v : ℕ) → news_length l s (v + 1) ≡ news_length l s v + (if fresh l s v then 1 else 0)
unfolding news fresh is_met
fresh_step l s v = let e : v + 1 ≡ suc v = omega arith in rw e (go (live_at l s v) (any_in (λ u. alike_at l s u v) (news (live_at l s) (alike_at l s) v)))
  where
    ks : List ℕ
    ks = news (live_at l s) (alike_at l s) v

    go : (a b : Bool) → length (if a then (if b then ks else ks ++ v ∷ []) else ks) ≡ length ks + (if a && not b then 1 else 0)
    go true true = omega arith
    go true false = length-append ks (v ∷ [])
    go false b = omega arith

module _ (l : List ℕ) (s : Bool) where
  pub count_none : 0 ≡ news_length l s 0
  unfolding news
  count_none = refl

  module _ (v p : ℕ) (b : Bool) (e : p ≡ news_length l s v) (q : b ≡ fresh l s v) where
    pub count_more : b ≡ true → p + 1 ≡ news_length l s (v + 1)
    count_more h = rw e (sym (rw (sym q ∙ h) at (fresh_step l s v)))

    pub count_same : b ≡ false → p ≡ news_length l s (v + 1)
    count_same h = let x : news_length l s (v + 1) ≡ news_length l s v + 0 = rw (sym q ∙ h) at (fresh_step l s v) in omega arith

  pub count_all : (v n p : ℕ) → p ≡ news_length l s v → v ≤ n → n ≤ v → n ≡ key_count l s → p ≡ length (keys_of l s)
  unfolding keys_of
  count_all v n p e a b q = let i : v ≡ key_count l s = omega arith in rw i at e

pub ruleset count_cases = (count_none, count_more, count_same, count_all)

-- ---- room

in_up : (s : Bool) (p n : ℕ) → p ≤ n → place_in s p ≤ place_in s n
unfolding place_in
in_up true p n h = h
in_up false p n h = omega arith

pub key_most : (l : List ℕ) (s : Bool) → length (keys_of l s) ≤ key_count l s
key_most l s = let a = keys_many l s in let b = keys_most l s in omega arith

pub key_fits : (l : List ℕ) (s : Bool) (p n : ℕ) → p ≡ length (keys_of l s) → n ≡ key_count l s → key_count l s < 4294967295 → p < 4294967295
key_fits l s p n e q h = let a = key_most l s in omega arith

-- room for as many keys as there can be is room for those that there are
pub room_most : (l : List ℕ) (s : Bool) (n more w t : ℕ) (b : Bool) → n ≡ key_count l s → b ≡ ample s n more w t → b ≡ true → true ≡ ample s (length (keys_of l s)) more w t
unfolding ample
room_most l s n more w t b e q h =
    let y = sym q ∙ h in
    let f : place_in s n + more ≤ w = leb-true _ _ (and_left (leb (place_in s n + more) w) (leb n t) y) in
    let g : n ≤ t = leb-true _ _ (and_right (leb (place_in s n + more) w) (leb n t) y) in
    let m : length (keys_of l s) ≤ n = let a = key_most l s in omega arith in
    let f' : place_in s (length (keys_of l s)) + more ≤ w = let a = in_up s (length (keys_of l s)) n m in omega arith in
    let g' : length (keys_of l s) ≤ t = omega arith in
    simp (le-leb _ _ f', le-leb _ _ g')

pub room_counted : (l : List ℕ) (s : Bool) (p more w t : ℕ) (b : Bool) → p ≡ length (keys_of l s) → b ≡ ample s p more w t → b ≡ ample s (length (keys_of l s)) more w t
room_counted l s p more w t b e q = rw (← e) q

pub ruleset room_cases = (key_fits, room_most, room_counted)
