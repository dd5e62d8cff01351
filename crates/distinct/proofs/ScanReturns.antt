-- Laws for the functions that gather keys in the lent runs.
use Prim.Native.Nat.{ℕ, zero, suc, ◌+◌, ◌-◌, ◌<◌, ◌≤◌}
use mathlib.Core.Path.{◌≡◌, ap, sym, ◌∙◌}
use mathlib.Core.Bool.{Bool, true, false}
use mathlib.Core.Logic.{⊎_elim}
use mathlib.Core.List.{List, [], ◌∷◌, ◌++◌}
use native.Mathlib.Omega.{arith}
use lib.ListN.{length, get_or, set, length-set, length-append}
use lib.Seq.{get_or-set_other}
use Rattle.std.specs.Prelude.{if◌then◌else◌}
use Rattle.format.specs.Distinct.{any_in, tally, news}
use Rattle.format.specs.MakeTables.{key_count, live_at, alike_at, keys_of}
use Rattle.format.proofs.KeyLaw.{likeness}
use Rattle.format.proofs.NewsLaw.{news_bound, news_most, news_new}
use Rattle.format.proofs.Tally.{lt_or_le, tally_most}
use Rattle.distinct.specs.Gathered.{Under, Gathered}
use Rattle.keys.specs.Keys.{place_in}
use Rattle.keys.specs.Runs.{Room, Behind}
use Rattle.distinct.specs.Pairs.{Missed, Scanned}
use Rattle.slots.proofs.Cases.{kept}
use Rattle.distinct.proofs.GatherLaw.{gathered_none, gather_dead, gather_found, gather_new}
use Rattle.keys.proofs.RunLaw.{in_mono, behind_none, behind_then}

-- ---- the search

module _ (l : List ℕ) (s : Bool) (v p : ℕ) (w : List ℕ) where
  pub missed_none : Missed l s v w 0
  unfolding Missed
  missed_none i h = absurd (omega arith)

  module _ (e : ℕ) (M : Missed l s v w e) where
    pub missed_all : e ≤ p → p ≤ e → Missed l s v w p
    missed_all a b = let z : e ≡ p = omega arith in rw z at M

    module _ (x : ℕ) (ex : x ≡ get_or w e 0) (b : Bool) (q : b ≡ alike_at l s x v) where
      pub found_like : b ≡ true → alike_at l s (get_or w e 0) v ≡ true
      found_like k = rw (← ex) (sym q ∙ k)

      pub missed_more : b ≡ false → Missed l s v w (e + 1)
      unfolding Missed
      missed_more k i h =
          ⊎_elim (λ g. M i g) (λ g. let z : i ≡ e = omega arith in rw (z, ← ex) (sym q ∙ k)) (lt_or_le i e)

  pub find_key : (n e x : ℕ) → Under p n w → e < p → x ≡ get_or w e 0 → x < n
  unfolding Under
  find_key n e x U h ex = rw ex (U e h)

  pub find_word : (n e x : ℕ) → Under p n w → e < p → x ≡ get_or w e 0 → n < 4294967295 → x < 4294967295
  find_word n e x U h ex g = let k = find_key n e x U h ex in omega arith

pub ruleset find_cases = (missed_none, missed_all, found_like, missed_more, find_key, find_word)

-- ---- one more key

-- the distinct keys only grow
news_on : (live : ℕ → Bool) (alike : ℕ → ℕ → Bool) (n : ℕ) → length (news live alike n) ≤ length (news live alike (suc n))
unfolding news
news_on live alike n = go (live n) (any_in (λ u. alike u n) (news live alike n))
  where
    go : (a b : Bool) → length (news live alike n) ≤ length (if a then (if b then news live alike n else news live alike n ++ n ∷ []) else news live alike n)
    go true true = omega arith
    go true false = omega (arith, length-append (news live alike n) (n ∷ []))
    go false b = omega arith

pub news_longer : (live : ℕ → Bool) (alike : ℕ → ℕ → Bool) (m j : ℕ) → length (news live alike m) ≤ length (news live alike (m + j))
news_longer live alike m zero = let e : m + 0 ≡ m = omega arith in rw e (omega arith)
news_longer live alike m (suc j) =
    let e : m + suc j ≡ suc (m + j) = omega arith in
    let a : length (news live alike m) ≤ length (news live alike (m + j)) = news_longer live alike m j in
    let b : length (news live alike (m + j)) ≤ length (news live alike (suc (m + j))) = news_on live alike (m + j) in
    rw e (omega arith)

in_room : (s : Bool) (k m : ℕ) → place_in s k ≤ m → k ≤ m
unfolding place_in
in_room true k m h = h
in_room false k m h = omega arith

set_behind : (p : ℕ) (b : List ℕ) (i x : ℕ) → i < p → Behind p b (set b i x)
set_behind p b i x h = record { size = length-set b i x; rest = λ k g. get_or-set_other b i k x 0 (above k g) }
  where
    above : (k : ℕ) → p ≤ k → k ≡ i → ⊥
    above k g e = absurd (omega arith)

module _ (l : List ℕ) (s : Bool) (v p : ℕ) (w t : List ℕ) (G : Gathered (live_at l s) (alike_at l s) v p w t) (h : v < key_count l s) where
  -- there is room up to the last key
  pub scan_most : p ≤ length (keys_of l s)
  unfolding keys_of
  scan_most =
      let e : v + (key_count l s - v) ≡ key_count l s = omega arith in
      let a : length (news (live_at l s) (alike_at l s) v) ≤ length (news (live_at l s) (alike_at l s) (key_count l s)) =
      rw e at (news_longer (live_at l s) (alike_at l s) v (key_count l s - v)) in
      omega (arith, G.number)

  pub scan_under : Under p (key_count l s) w
  unfolding Under
  scan_under r g =
      let b : get_or (news (live_at l s) (alike_at l s) v) r 0 < v = news_bound (live_at l s) (alike_at l s) v r (omega (arith, G.number)) in
      rw (G.keys r g) (omega arith)

  pub scan_dead : (b : Bool) → b ≡ live_at l s v → b ≡ false → Scanned l s (v + 1) p w w t t
  scan_dead b e d = record { gathered = gather_dead (live_at l s) (alike_at l s) v p w t G (sym e ∙ d); words = behind_none p w; tallies = behind_none p t }

  module _ (R : Room l s w t) (d : live_at l s v ≡ true) where
    pub scan_count : (e : ℕ) → e < p → key_count l s < 4294967295 → get_or t e 0 < 4294967295
    scan_count e k g = let z : get_or t e 0 ≤ v = rw (G.counts e k) (tally_most _ v) in omega arith

    pub scan_found : (e : ℕ) (t' : List ℕ) → e < p → alike_at l s (get_or w e 0) v ≡ true → t' ≡ set t e (get_or t e 0 + 1) → Scanned l s (v + 1) p w w t t'
    scan_found e t' k a q =
        let m : p ≤ length t = let a = scan_most in omega (arith, R.tallies) in
        rw q (record {
          gathered = gather_found (live_at l s) (alike_at l s) v p w t G (likeness l s) d e k m a;
          words = behind_none p w;
          tallies = set_behind p t e (get_or t e 0 + 1) k;
        })

    module _ (M : Missed l s v w p) where
      none_like : (r : ℕ) → r < p → alike_at l s (get_or w r 0) v ≡ false
      unfolding Missed
      none_like r g = M r g

      -- the new key has its place, too
      grown : p + 1 ≤ length (keys_of l s)
      unfolding keys_of
      grown =
          let i : v + 1 + (key_count l s - (v + 1)) ≡ key_count l s = omega arith in
          let a : length (news (live_at l s) (alike_at l s) (v + 1)) ≤ length (news (live_at l s) (alike_at l s) (key_count l s)) =
          rw i at (news_longer (live_at l s) (alike_at l s) (v + 1) (key_count l s - (v + 1))) in
          let n : news (live_at l s) (alike_at l s) (v + 1) ≡ news (live_at l s) (alike_at l s) v ++ v ∷ [] =
          news_new (live_at l s) (alike_at l s) v d (λ r g. let y : r < p = omega (arith, G.number) in rw (sym (G.keys r y)) (none_like r y)) in
          let m : length (news (live_at l s) (alike_at l s) (v + 1)) ≡ length (news (live_at l s) (alike_at l s) v) + 1 =
          ap length n ∙ length-append (news (live_at l s) (alike_at l s) v) (v ∷ []) in
          omega (arith, G.number)

      pub scan_new : (x : ℕ) (w' t' : List ℕ) → x ≡ p + 1 → w' ≡ set w p v → t' ≡ set t p 1 → Scanned l s (v + 1) x w w' t t'
      scan_new x w' t' ex ew et =
          let g = grown in
          let hw : p + 1 ≤ length w = in_room s (p + 1) (length w) (let y = in_mono s p (length (keys_of l s)) (omega arith) in omega (arith, R.words)) in
          rw (ex, ew, et) (record {
            gathered = gather_new (live_at l s) (alike_at l s) v p w t G (likeness l s) d (omega arith) (omega (arith, R.tallies)) none_like;
            words = set_behind (p + 1) w p v (omega arith);
            tallies = set_behind (p + 1) t p 1 (omega arith);
          })

pub told_true : (x b : Bool) → b ≡ x → b ≡ true → x ≡ true
told_true x b e h = sym e ∙ h

pub ruleset scan_one_cases = (told_true, scan_under, scan_dead, scan_count, scan_found, scan_new)

-- ---- all keys

behind_wider : (p q : ℕ) (a b : List ℕ) → p ≤ q → Behind p a b → Behind q a b
behind_wider p q a b h B = record { size = B.size; rest = λ i g. B.rest i (omega arith) }

module _ (l : List ℕ) (s : Bool) (w t : List ℕ) where
  pub scanned_none : Scanned l s 0 0 w w t t
  scanned_none = record { gathered = gathered_none (live_at l s) (alike_at l s) w t; words = behind_none 0 w; tallies = behind_none 0 t }

  module _ (v p : ℕ) (w' t' : List ℕ) (S : Scanned l s v p w w' t t') where
    pub scanned_gathered : Gathered (live_at l s) (alike_at l s) v p w' t'
    scanned_gathered = S.gathered

    pub scanned_room : Room l s w t → Room l s w' t'
    scanned_room R = record { words = rw S.words.size R.words; tallies = rw S.tallies.size R.tallies }

    pub scanned_fits : (n : ℕ) → v ≤ n → n < 4294967295 → p < 4294967295
    scanned_fits n h g =
        let a : length (news (live_at l s) (alike_at l s) v) ≤ tally (live_at l s) v = news_most (live_at l s) (alike_at l s) v in
        let b : tally (live_at l s) v ≤ v = tally_most (live_at l s) v in
        omega (arith, S.gathered.number)

    pub scanned_more : (q : ℕ) (w'' t'' : List ℕ) → Scanned l s (v + 1) q w' w'' t' t'' → Scanned l s (v + 1) q w w'' t t''
    scanned_more q w'' t'' N =
        let a : length (news (live_at l s) (alike_at l s) v) ≤ length (news (live_at l s) (alike_at l s) (v + 1)) = news_longer (live_at l s) (alike_at l s) v 1 in
        let m : p ≤ q = omega (arith, S.gathered.number, N.gathered.number) in
        record {
          gathered = N.gathered;
          words = behind_then q w w' w'' (behind_wider p q w w' m S.words) N.words;
          tallies = behind_then q t t' t'' (behind_wider p q t t' m S.tallies) N.tallies;
        }

    pub scanned_all : (n : ℕ) → v ≤ n → n ≤ v → Scanned l s n p w w' t t'
    scanned_all n a b = let e : v ≡ n = omega arith in rw e at S

pub ruleset scan_cases = (kept, scanned_none, scanned_gathered, scanned_room, scanned_fits, scanned_more, scanned_all)
