-- One more key is gathered, and entered into the hash table.
use Prim.Native.Nat.{ℕ, suc, ◌+◌, ◌<◌, ◌≤◌}
use mathlib.Core.Path.{◌≡◌, refl, ap, sym, ◌∙◌}
use mathlib.Core.Bool.{Bool, true, false}
use mathlib.Core.Logic.{⊎_elim}
use mathlib.Core.List.{List, [], ◌∷◌, ◌++◌}
use native.Mathlib.Omega.{arith}
use lib.ListN.{length, get_or, set, replicate, length-set, length-replicate, length-append, get_or-append}
use lib.Seq.{get_or-set_same, get_or-set_other, get_or_at}
use Rattle.std.specs.Prelude.{if◌then◌else◌}
use Rattle.format.specs.Distinct.{news, hits, times}
use Rattle.format.proofs.Tally.{lt_or_le, lt_ne, tally_step}
use Rattle.format.proofs.NewsLaw.{Likeness, news_dead, news_old, news_new, news_apart, news_unmet}
use Rattle.slots.specs.Probe.{probe}
use Rattle.distinct.specs.Gathered.{Gathered, Reached}
use Rattle.slots.specs.declared.probe.Looked.TheVariants.{Empty}
use Rattle.slots.proofs.Cases.{eq_or_ne}
use Rattle.keys.proofs.Lists.{set_all, zeros_at}
use Rattle.slots.proofs.ProbeLaw.{found_empty, probe_miss, probe_empty, probe_keep, probe_new}

snoc_last : (l : List ℕ) (x : ℕ) → get_or (l ++ x ∷ []) (length l) 0 ≡ x
snoc_last l x = get_or_at l x [] 0 (length l) refl

snoc_length : (l : List ℕ) (x : ℕ) → length (l ++ x ∷ []) ≡ length l + 1
snoc_length l x = length-append l (x ∷ [])

module _ (live : ℕ → Bool) (alike : ℕ → ℕ → Bool) where
  -- nothing is gathered yet
  pub gathered_none : (f c : List ℕ) → Gathered live alike 0 0 f c
  unfolding news
  gathered_none f c = record { number = refl; keys = λ r g. absurd (omega arith); counts = λ r g. absurd (omega arith) }

  times_step : (v r : ℕ) → times live alike (v + 1) r ≡ (if hits live alike r v then times live alike v r + 1 else times live alike v r)
  times_step v r = tally_step (hits live alike r) v

  times_other : (v r : ℕ) → hits live alike r v ≡ false → times live alike (v + 1) r ≡ times live alike v r
  times_other v r h = times_step v r ∙ simp h

  times_more : (v r : ℕ) → hits live alike r v ≡ true → times live alike (v + 1) r ≡ times live alike v r + 1
  times_more v r h = times_step v r ∙ simp h

  module _ (v p : ℕ) (f c : List ℕ) (S : Gathered live alike v p f c) where
    abbrev ks : List ℕ
    ks = news live alike v

    -- number v is no key
    pub gather_dead : live v ≡ false → Gathered live alike (v + 1) p f c
    gather_dead d =
        let e = news_dead live alike v d in
        record {
          number = rw e S.number;
          keys = rw e S.keys;
          counts = λ r h. S.counts r h ∙ rw e (sym (times_other v (get_or ks r 0) (simp d)));
        }

    module _ (L : Likeness alike) (d : live v ≡ true) where
      -- a key that is there
      pub gather_found : (e : ℕ) → e < p → p ≤ length c → alike (get_or f e 0) v ≡ true
          → Gathered live alike (v + 1) p f (set c e (get_or c e 0 + 1))
      gather_found e he hc g =
          let hk : e < length ks = omega (arith, S.number) in
          let a : alike (get_or ks e 0) v ≡ true = rw (S.keys e he) at g in
          let same = news_old live alike v e d hk a in
          record {
            number = rw same S.number;
            keys = rw same S.keys;
            counts = λ r h. rw same (⊎_elim
                (λ i.
                let k : e < length c = omega arith in
                rw i (get_or-set_same c e (get_or c e 0 + 1) 0 k ∙ ap (λ (x : ℕ). x + 1) (S.counts e he) ∙ sym (times_more v (get_or ks e 0) (simp (d, a)))))
                (λ i.
                get_or-set_other c e r (get_or c e 0 + 1) 0 i ∙ S.counts r h
                ∙ sym (times_other v (get_or ks r 0) (simp d (other r i (omega (arith, S.number)) hk a (alike (get_or ks r 0) v) refl))))
                (eq_or_ne r e));
          }
        where
          other : (r : ℕ) → (r ≡ e → ⊥) → r < length ks → e < length ks → alike (get_or ks e 0) v ≡ true → (b : Bool) → alike (get_or ks r 0) v ≡ b → b ≡ false
          other r i h g a false k = refl
          other r i h g a true k = absurd (i (news_apart live alike L v r e h g (L.chain (get_or ks r 0) v (get_or ks e 0) k (L.turn (get_or ks e 0) v a))))

      -- a new key
      pub gather_new : p < length f → p < length c → ((r : ℕ) → r < p → alike (get_or f r 0) v ≡ false)
          → Gathered live alike (v + 1) (p + 1) (set f p v) (set c p 1)
      gather_new hf hc none =
          let miss : (r : ℕ) → r < length ks → alike (get_or ks r 0) v ≡ false = λ r h.
          let h' : r < p = omega (arith, S.number) in rw (sym (S.keys r h')) (none r h') in
          let new = news_new live alike v d miss in
          record {
            number = rw new (ap (λ (x : ℕ). x + 1) S.number ∙ sym (snoc_length ks v));
            keys = λ r h. rw new (⊎_elim
                (λ q. get_or-set_other f p r v 0 (lt_ne r p q) ∙ S.keys r q ∙ sym (get_or-append ks (v ∷ []) 0 r (omega (arith, S.number))))
                (λ q. let i : r ≡ p = omega arith in rw i (get_or-set_same f p v 0 hf ∙ sym (snoc_last ks v) ∙ ap (λ (x : ℕ). get_or (ks ++ v ∷ []) x 0) (sym S.number)))
                (lt_or_le r p));
            counts = λ r h. rw new (⊎_elim
                (λ q.
                let m : r < length ks = omega (arith, S.number) in
                rw (get_or-append ks (v ∷ []) 0 r m) (get_or-set_other c p r 1 0 (lt_ne r p q) ∙ S.counts r q ∙ sym (times_other v (get_or ks r 0) (simp (d, miss r m)))))
                (λ q.
                let i : r ≡ p = omega arith in
                let w : get_or (ks ++ v ∷ []) p 0 ≡ v = ap (λ (x : ℕ). get_or (ks ++ v ∷ []) x 0) S.number ∙ snoc_last ks v in
                rw (i, w) (get_or-set_same c p 1 0 hc ∙ sym (times_more v v (simp (d, L.self v)) ∙ ap (λ (x : ℕ). x + 1) (news_unmet live alike L v miss))))
                (lt_or_le r p));
          }

-- ---- the hash table

module _ (alike : ℕ → ℕ → Bool) (slot : ℕ → ℕ) where
  pub reached_none : (size m : ℕ) → Reached slot size 0 (replicate size 0) (replicate m 0)
  reached_none size m = record {
    wide = length-replicate size 0;
    entries = λ j. let z : ◌≡◌ {A = ℕ} (get_or (replicate size 0) j 0) 0 = zeros_at size j in omega arith;
    reach = λ r g. absurd (omega arith);
  }

  module _ (size v p : ℕ) (t f : List ℕ) (S : Reached slot size p t f) (cong : (a b : ℕ) → alike a b ≡ true → slot a ≡ slot b) where
    abbrev test : ℕ → Bool
    test e = alike (get_or f e 0) v

    -- a search that ends at an empty slot has met every rank that is like the key
    pub reach_none : (k : ℕ) → probe size t test (slot v) size ≡ Empty k → (r : ℕ) → r < p → alike (get_or f r 0) v ≡ false
    reach_none k g r h = go (alike (get_or f r 0) v) refl
      where
        go : (b : Bool) → alike (get_or f r 0) v ≡ b → alike (get_or f r 0) v ≡ false
        go false e = e
        go true e = probe_miss size t test (slot v) size r (rw (cong (get_or f r 0) v e) at (S.reach r h)) (λ e q. found_empty e k (sym q ∙ g))

    pub reach_new : (k : ℕ) → slot v < size → p < length f → probe size t test (slot v) size ≡ Empty k
        → Reached slot size (p + 1) (set t k (p + 1)) (set f p v)
    reach_new k hs hf g =
        let z = probe_empty size t test (slot v) size k hs g in
        record {
          wide = length-set t k (p + 1) ∙ S.wide;
          entries = set_all (λ x. x ≤ p + 1) t k (p + 1) (λ j. let y : get_or t j 0 ≤ p = S.entries j in omega arith) (omega arith);
          reach = λ r h. ⊎_elim
              (λ q.
              let w : get_or (set f p v) r 0 ≡ get_or f r 0 = get_or-set_other f p r v 0 (lt_ne r p q) in
              rw w (probe_keep size t k (p + 1) z.0 (slot (get_or f r 0)) size r (S.reach r q)))
              (λ q.
              let i : r ≡ p = omega arith in
              let w : get_or (set f p v) p 0 ≡ v = get_or-set_same f p v 0 hf in
              let j : p + 1 ≡ suc p = omega arith in
              rw (i, w, j) (probe_new size t test k p S.wide z.0 (slot v) size hs g))
              (lt_or_le r p);
        }
