-- Laws for the functions that gather: the search for a key, slot after slot, and the ways of entering one.
use Prim.Native.Nat.{ℕ, ◌+◌, ◌-◌, ◌<◌, ◌≤◌}
use mathlib.Core.Path.{◌≡◌, ap, sym, ◌∙◌}
use mathlib.Core.Bool.{Bool, true, false}
use mathlib.Core.List.{List}
use native.Mathlib.Omega.{arith}
use lib.ListN.{length, get_or, set, replicate, length-replicate}
use Rattle.format.specs.Distinct.{news}
use Rattle.format.specs.MakeTables.{key_count, alike_at, keys_of}
use Rattle.format.proofs.Tally.{tally_most}
use Rattle.format.proofs.KeyLaw.{likeness}
use Rattle.format.proofs.NewsLaw.{news_bound}
use Rattle.keys.specs.Keys.{live_in, slot_of}
use Rattle.distinct.specs.Gathered.{like_rank, UpTo, Under, Filled}
use Rattle.slots.specs.Probe.{probe, next_slot}
use Rattle.slots.specs.declared.probe.Looked.{Looked}
use Rattle.slots.specs.declared.probe.Looked.TheVariants.{Found, Empty}
use Rattle.slots.proofs.Cases.{kept}
use Rattle.keys.proofs.KeyReturns.{slot_same}
use Rattle.slots.proofs.ProbeLaw.{probe_found}
use Rattle.slots.proofs.LookLaw.{look_full, look_empty, look_found, look_on}
use Rattle.distinct.proofs.GatherLaw.{gathered_none, gather_found, gather_new, reached_none, reach_none, reach_new}

-- ---- the search

-- an entry of the table is one more than a rank, and the rank's key is one of the list
module _ (p n : ℕ) (t f : List ℕ) (U : UpTo p t) (k x : ℕ) (e : x ≡ get_or t k 0) (z : x ≡ 0 → ⊥) where
  pub entry_rank : x - 1 < p
  unfolding UpTo
  entry_rank = let h : x ≤ p = rw e (U k) in omega arith

  pub entry_index : (m : ℕ) → p ≤ m → x - 1 < m
  entry_index m h = let g = entry_rank in omega arith

  pub entry_key : (u : ℕ) → u ≡ get_or f (x - 1) 0 → Under p n f → u < n
  unfolding Under
  entry_key u q B = rw q (B (x - 1) entry_rank)

  pub entry_word : (u : ℕ) → u ≡ get_or f (x - 1) 0 → Under p n f → n < 4294967295 → u < 4294967295
  entry_word u q B h = let g = entry_key u q B in omega arith

module _ (l : List ℕ) (symbols : Bool) (v N : ℕ) (t f : List ℕ) (start s left : ℕ) where
  module _ (inv : probe N t (like_rank l symbols f v) start N ≡ probe N t (like_rank l symbols f v) s left) (h : 0 < left) (e : ℕ) (q : e ≡ get_or t s 0) (z : e ≡ 0 → ⊥) where
    module _ (u : ℕ) (k : u ≡ get_or f (e - 1) 0) (b : Bool) (a : b ≡ alike_at l symbols u v) where
      here : b ≡ like_rank l symbols f v (e - 1)
      unfolding like_rank
      here = a ∙ ap (λ (x : ℕ). alike_at l symbols x v) k

      pub rank_found : b ≡ true → Found (e - 1) ≡ probe N t (like_rank l symbols f v) start N
      rank_found y = look_found N t (like_rank l symbols f v) start s left inv h e q z b here y

      pub rank_on : b ≡ false → (s' : ℕ) → s' ≡ next_slot N s → probe N t (like_rank l symbols f v) start N ≡ probe N t (like_rank l symbols f v) s' (left - 1)
      rank_on y s' n = look_on N t (like_rank l symbols f v) start s left inv h e q z b here y s' n

pub ruleset rank_cases = (entry_rank, entry_index, entry_key, entry_word, look_full, look_empty, rank_found, rank_on)

-- ---- the ways of entering a key

module _ (l : List ℕ) (s : Bool) (C k N v p : ℕ) (t f c : List ℕ) (F : Filled l s C k N v p t f c) where
  pub filled_upto : UpTo p t
  unfolding UpTo
  filled_upto = F.reached.entries

  pub filled_under : v < key_count l s → Under p (key_count l s) f
  unfolding Under
  filled_under h r g =
      let e : get_or f r 0 ≡ get_or (news (live_in l s C k) (alike_at l s) v) r 0 = F.gathered.keys r g in
      let b : get_or (news (live_in l s C k) (alike_at l s) v) r 0 < v = news_bound (live_in l s C k) (alike_at l s) v r (omega (arith, F.gathered.number)) in
      omega arith

  module _ (start : ℕ) (es : start ≡ slot_of l s N v) (q : Looked) (eq : q ≡ probe N t (like_rank l s f v) start N) where
    module _ (e : ℕ) (i : q ≡ Found e) where
      found_like : (alike_at l s (get_or f e 0) v ≡ true) × (e < p)
      unfolding like_rank
      found_like = probe_found N t (like_rank l s f v) (λ r. r < p) (λ s z. let y : get_or t s 0 ≤ p = F.reached.entries s in omega arith) start N e (sym eq ∙ i)

      pub found_count : v < key_count l s → key_count l s < 4294967295 → get_or c e 0 < 4294967295
      found_count h g =
          let z : get_or c e 0 ≤ v = rw (F.gathered.counts e found_like.1) (tally_most _ v) in
          omega arith

      pub filled_found : (c' : List ℕ) → live_in l s C k v ≡ true → c' ≡ set c e (get_or c e 0 + 1) → p ≤ length f → length c ≡ length f
          → Filled l s C k N (v + 1) p t f c'
      filled_found c' d w h g =
          rw w (record {
            gathered = gather_found (live_in l s C k) (alike_at l s) v p f c F.gathered (likeness l s) d e found_like.1 (omega arith) found_like.0;
            reached = F.reached;
          })

    module _ (j : ℕ) (i : q ≡ Empty j) where
      pub filled_new : (x : ℕ) (t' f' c' : List ℕ) → live_in l s C k v ≡ true → start < N → p ≤ length f → (p ≡ length f → ⊥) → length c ≡ length f
          → x ≡ p + 1 → t' ≡ set t j (p + 1) → f' ≡ set f p v → c' ≡ set c p 1
          → Filled l s C k N (v + 1) x t' f' c'
      unfolding like_rank
      filled_new x t' f' c' d hs hp hn hc ex et ef ec =
          let hf : p < length f = omega arith in
          let g : probe N t (like_rank l s f v) (slot_of l s N v) N ≡ Empty j = rw (sym es) (sym eq ∙ i) in
          rw (et, ex, ef, ec) (record {
            gathered = gather_new (live_in l s C k) (alike_at l s) v p f c F.gathered (likeness l s) d hf (omega arith)
                (reach_none (alike_at l s) (slot_of l s N) N v p t f F.reached (λ a b. slot_same l N a b s) j g);
            reached = reach_new (alike_at l s) (slot_of l s N) N v p t f F.reached (λ a b. slot_same l N a b s) j (rw es at hs) hf g;
          })

pub ruleset enter_cases = (kept, filled_upto, filled_under, found_count, filled_found, filled_new)

-- ---- all keys

module _ (l : List ℕ) (s : Bool) (C k N : ℕ) (t f c : List ℕ) where
  -- over another name of the table's length
  pub filled_size : (N' v p : ℕ) → Filled l s C k N v p t f c → N' ≡ N → Filled l s C k N' v p t f c
  filled_size N' v p F e = rw e F

pub ruleset gather_cases = (kept, filled_size)

-- nothing is entered yet in arrays of zeros
pub filled_none : (l : List ℕ) (s : Bool) (C k size m : ℕ) (c : List ℕ)
    → Filled l s C k (length (replicate {A = ℕ} size 0)) 0 0 (replicate size 0) (replicate m 0) c
filled_none l s C k size m c =
    let z : length (replicate {A = ℕ} size 0) ≡ size = length-replicate size 0 in
    rw z (record { gathered = gathered_none (live_in l s C k) (alike_at l s) (replicate m 0) c; reached = reached_none (alike_at l s) (slot_of l s size) size m })

-- all keys of the list
pub filled_number : (l : List ℕ) (s : Bool) (N p : ℕ) (t f c : List ℕ) → Filled l s 1 0 N (key_count l s) p t f c → p ≡ length (keys_of l s)
unfolding keys_of live_in
filled_number l s N p t f c F = F.gathered.number
