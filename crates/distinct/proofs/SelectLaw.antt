-- Numbers are chosen one by one, and the chosen ones are entered: what is not chosen is no key.
use Prim.Native.Nat.{ℕ, zero, suc, ◌+◌, ◌-◌, ◌<◌, ◌≤◌}
use mathlib.Core.Path.{◌≡◌, refl, ap}
use mathlib.Core.Bool.{Bool, true, false}
use mathlib.Core.Logic.{⊎_elim}
use mathlib.Core.List.{List}
use native.Mathlib.Omega.{arith}
use lib.ListN.{length, get_or, set}
use lib.Seq.{get_or-set_same, get_or-set_other}
use Rattle.std.specs.Prelude.{if◌then◌else◌}
use Rattle.format.specs.MakeTables.{alike_at}
use Rattle.format.proofs.Tally.{lt_or_le, lt_ne}
use Rattle.keys.specs.Keys.{live_in}
use Rattle.distinct.specs.Select.{lead_of, Selected}
use Rattle.distinct.specs.Gathered.{Filled}
use Rattle.distinct.proofs.GatherLaw.{gather_dead}

lead_set : (b : List ℕ) (m z a j : ℕ) → j ≤ m → lead_of (set b m z) a j ≡ lead_of b a j
unfolding lead_of
lead_set b m z a zero h = refl
lead_set b m z a (suc j) h = ap (λ (x : ℕ). x + 1) (get_or-set_other b m j z 0 (lt_ne j m (omega arith)))

pub lead_next : (b : List ℕ) (a j : ℕ) → lead_of b a (j + 1) ≡ get_or b j 0 + 1
unfolding lead_of
lead_next b a j = let i : j + 1 ≡ suc j = omega arith in rw i

module _ (live : ℕ → Bool) (a : ℕ) where
  pub selected_none : (b : List ℕ) → Selected live a a 0 b
  unfolding lead_of
  selected_none b =
      record {
        most = omega arith;
        keys = λ j h. absurd (omega arith);
        rising = λ j h. absurd (omega arith);
        within = λ j h. absurd (omega arith);
        between = λ j h. absurd (omega arith);
        last = omega arith;
        behind = λ x g k. absurd (omega arith);
      }

  module _ (z m : ℕ) (b : List ℕ) (S : Selected live a z m b) (h : m < length b) where
    other : (j : ℕ) → j < m → get_or (set b m z) j 0 ≡ get_or b j 0
    other j g = get_or-set_other b m j z 0 (lt_ne j m g)

    same : get_or (set b m z) m 0 ≡ z
    same = get_or-set_same b m z 0 h

    lead : (j : ℕ) → j ≤ m → lead_of (set b m z) a j ≡ lead_of b a j
    lead j g = lead_set b m z a j g

    selected_dead : live z ≡ false → Selected live a (z + 1) m (set b m z)
    selected_dead d =
        record {
          most = omega (arith, S.most);
          keys = λ j g. rw (other j g) (S.keys j g);
          rising = λ j g. rw (other j g, lead j (omega arith)) (S.rising j g);
          within = λ j g. let k : get_or b j 0 < z = S.within j g in rw (other j g) (omega arith);
          between = λ j g. rw (other j g, lead j (omega arith)) (S.between j g);
          last = let k : lead_of b a m ≤ z = S.last in rw (lead m (omega arith)) (omega arith);
          behind = λ x g k. ⊎_elim
              (λ q. S.behind x (rw (lead m (omega arith)) at g) q)
              (λ q. let i : x ≡ z = omega arith in rw i d)
              (lt_or_le x z);
        }

    selected_live : live z ≡ true → Selected live a (z + 1) (m + 1) (set b m z)
    selected_live d =
        record {
          most = omega (arith, S.most);
          keys = λ j g. ⊎_elim
              (λ q. rw (other j q) (S.keys j q))
              (λ q. let i : j ≡ m = omega arith in rw (i, same) d)
              (lt_or_le j m);
          rising = λ j g. ⊎_elim
              (λ q. rw (other j q, lead j (omega arith)) (S.rising j q))
              (λ q. let i : j ≡ m = omega arith in rw (i, same, lead m (omega arith)) S.last)
              (lt_or_le j m);
          within = λ j g. ⊎_elim
              (λ q. let k : get_or b j 0 < z = S.within j q in rw (other j q) (omega arith))
              (λ q. let i : j ≡ m = omega arith in rw (i, same) (omega arith))
              (lt_or_le j m);
          between = λ j g. ⊎_elim
              (λ q. rw (other j q, lead j (omega arith)) (S.between j q))
              (λ q. let i : j ≡ m = omega arith in rw (i, same, lead m (omega arith)) S.behind)
              (lt_or_le j m);
          last = rw (lead_next (set b m z) a m, same) (omega arith);
          behind = λ x g k. let e : z + 1 ≤ x = rw (lead_next (set b m z) a m, same) at g in absurd (omega arith);
        }

    pub selected_step : (d : ℕ) → d ≡ (if live z then 1 else 0) → Selected live a (z + 1) (m + d) (set b m z)
    selected_step d e = go (live z) refl e
      where
        go : (y : Bool) → live z ≡ y → d ≡ (if y then 1 else 0) → Selected live a (z + 1) (m + d) (set b m z)
        go true y e = rw e (selected_live y)
        go false y e = let i : m + d ≡ m = omega arith in rw i (selected_dead y)

-- ---- numbers that are no keys are passed over

module _ (l : List ℕ) (s : Bool) (C k N v p : ℕ) (t f c : List ℕ) (F : Filled l s C k N v p t f c) where
  skipped : (d : ℕ) → ((x : ℕ) → v ≤ x → x < v + d → live_in l s C k x ≡ false) → Filled l s C k N (v + d) p t f c
  skipped zero h = let i : v + 0 ≡ v = omega arith in rw i F
  skipped (suc d) h =
      let G = skipped d (λ x g q. h x g (omega arith)) in
      let i : v + suc d ≡ v + d + 1 = omega arith in
      rw i (record { gathered = gather_dead (live_in l s C k) (alike_at l s) (v + d) p f c G.gathered (h (v + d) (omega arith) (omega arith)); reached = G.reached })

  pub filled_on : (w : ℕ) → v ≤ w → ((x : ℕ) → v ≤ x → x < w → live_in l s C k x ≡ false) → Filled l s C k N w p t f c
  filled_on w g h = let i : v + (w - v) ≡ w = omega arith in rw i at (skipped (w - v) (λ x q r. h x q (omega arith)))
