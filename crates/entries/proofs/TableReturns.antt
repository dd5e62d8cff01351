-- Laws for the functions that make one table.
use Prim.Native.Nat.{ℕ, ◌+◌, ◌<◌, ◌≤◌}
use mathlib.Core.Path.{◌≡◌, ap, ◌∙◌}
use mathlib.Core.Bool.{Bool}
use mathlib.Core.List.{List}
use native.Mathlib.Omega.{arith}
use lib.ListN.{length, get_or, set, replicate, length-replicate}
use lib.Seq.{sets}
use Rattle.format.specs.MakeTables.{key_count, key_words, limit_of, keys_of, times_of, table_keys}
use Rattle.format.proofs.TableKeys.{keys_many, key_below}
use Rattle.format.specs.Distinct.{tally}
use Rattle.format.specs.Order.{ordered}
use Rattle.keys.specs.Keys.{place_in}
use Rattle.distinct.specs.Gathered.{Filled}
use Rattle.order.specs.Arrange.{get_d0, Counted, Holds}
use Rattle.entries.specs.Runs.{key_at, Ready, Stored, Made}
use Rattle.keys.specs.Runs.{Room}
use Rattle.slots.proofs.Cases.{kept}
use Rattle.entries.proofs.TableLaw.{stored_none, stored_more, stored_all, ready}

-- ---- one key

module _ (l : List ℕ) (s : Bool) (p : ℕ) (f c o : List ℕ) (R : Ready l s p f c o) (k : ℕ) (h : k < p) where
  pub below_table : k < length (keys_of l s)
  below_table = omega (arith, R.number)

  module _ (r : ℕ) (er : r ≡ get_or o k 0) where
    at_key : (v : ℕ) → v ≡ get_or f r 0 → v ≡ key_at l s k
    at_key v ev = ev ∙ ap (λ (j : ℕ). get_or f j 0) er ∙ R.keys k h

    pub emit_key : (v : ℕ) → v ≡ get_or f r 0 → v < key_count l s
    emit_key v ev =
        let n : length (table_keys l s) ≡ length (keys_of l s) = keys_many l s in
        let b : key_at l s k < key_count l s = key_below l s k (omega (arith, R.number)) in
        rw (at_key v ev) b

    pub emit_word : (v : ℕ) → v ≡ get_or f r 0 → key_count l s < 4294967295 → v < 4294967295
    emit_word v ev g = let b : v < key_count l s = emit_key v ev in omega arith

    pub emit_words : (v : ℕ) (w w' : List ℕ) → v ≡ get_or f r 0 → w' ≡ sets w (place_in s k) (key_words l s v)
        → w' ≡ sets w (place_in s k) (key_words l s (key_at l s k))
    emit_words v w w' ev e = e ∙ ap (λ (j : ℕ). sets w (place_in s k) (key_words l s j)) (at_key v ev)

    pub emit_count : (y : ℕ) (t t' : List ℕ) → y ≡ get_or c r 0 → t' ≡ set t k y → t' ≡ set t k (times_of l s (key_at l s k))
    emit_count y t t' ey e = e ∙ ap (set t k) (ey ∙ ap (λ (j : ℕ). get_or c j 0) er ∙ R.counts k h)

pub ruleset emit_one_cases = (emit_key, emit_word, emit_words, emit_count)

-- ---- all keys

module _ (l : List ℕ) (s : Bool) (p : ℕ) (f c o w t : List ℕ) (A : Ready l s p f c o) (R : Room l s w t) where
  pub emit_more : (k : ℕ) (w' t' w₁ t₁ : List ℕ) → Stored l s k w w' t t' → k < p
      → w₁ ≡ sets w' (place_in s k) (key_words l s (key_at l s k)) → t₁ ≡ set t' k (times_of l s (key_at l s k)) → Stored l s (k + 1) w w₁ t t₁
  emit_more k w' t' w₁ t₁ S h ew et = stored_more l s w w' t t' R k S w₁ t₁ (below_table l s p f c o A k h) ew et

  pub emit_all : (k : ℕ) (w' t' : List ℕ) → Stored l s k w w' t t' → p ≤ k → Made l s p w w' t t'
  emit_all k w' t' S h = stored_all l s w w' t t' R k S p A.number h

pub emit_none : (l : List ℕ) (s : Bool) (w t : List ℕ) → Room l s w t → Stored l s 0 w w t t
emit_none l s w t R = stored_none l s w w t t R

pub ruleset emit_cases = (kept, emit_none, emit_more, emit_all)

-- ---- with all keys gathered

pub finish_ready : (l : List ℕ) (s : Bool) (N p lim : ℕ) (t f c o : List ℕ) → Filled l s 1 0 N (key_count l s) p t f c → lim ≡ limit_of s
    → Holds o (ordered (get_d0 c) lim p) p → Ready l s p f c o
finish_ready l s N p lim t f c o F e H = ready l s N p t f c F o (rw e at H)

pub ruleset finish_cases = (kept, finish_ready)

-- ---- with the arrays that it takes

pub counted_any : (cs cs' h : List ℕ) → Counted cs 0 h → Counted cs' 0 h
unfolding Counted tally
counted_any cs cs' h k = k

pub through_filled : (l : List ℕ) (s : Bool) (N N' p : ℕ) (t f c : List ℕ) → Filled l s 1 0 N (key_count l s) p t f c → N' ≡ N → Filled l s 1 0 N' (key_count l s) p t f c
through_filled l s N N' p t f c F i = rw i F

module _ (p f₀ t₀ : ℕ) (h : p ≤ f₀) (g : f₀ ≤ t₀) where
  pub within_word : t₀ ≤ 1048576 → p < 4294967295
  within_word a = omega arith

  pub within_table : (t₁ : ℕ) → t₁ ≡ t₀ → p ≤ t₁
  within_table t₁ b = omega arith

pub within_counts : (p f₀ c₀ c₁ : ℕ) → p ≤ f₀ → c₀ ≡ f₀ → c₁ ≡ c₀ → p ≤ c₁
within_counts p f₀ c₀ c₁ h a b = omega arith

pub ruleset through_cases = (kept, counted_any, through_filled, within_word, within_table, within_counts)

-- ---- arrays of zeros

pub zeros_le : (f t : ℕ) → f ≤ t → length (replicate {A = ℕ} f 0) ≤ length (replicate {A = ℕ} t 0)
zeros_le f t h = rw (length-replicate {A = ℕ} f 0, length-replicate {A = ℕ} t 0) h
