-- Laws for the functions that make the table of pairs in the lent runs.
use Prim.Native.Nat.{ℕ, ◌-◌, ◌<◌, ◌≤◌}
use mathlib.Core.Path.{◌≡◌, ◌∙◌, refl}
use mathlib.Core.Bool.{Bool}
use mathlib.Core.List.{List}
use native.Mathlib.Omega.{arith}
use lib.ListN.{length, get_or}
use lib.Seq.{sets}
use Rattle.format.specs.Word.{put}
use Rattle.format.specs.MakeTables.{key_count, key_words, limit_of, keys_of, table_keys, table_words}
use Rattle.format.proofs.TableKeys.{keys_many, key_below}
use Rattle.keys.specs.Keys.{place_in}
use Rattle.entries.specs.Runs.{key_at, Made}
use Rattle.keys.specs.Runs.{Room, Behind}
use Rattle.order.specs.Sort.{Rising, Shuffled}
use Rattle.distinct.specs.Pairs.{Paired}
use Rattle.entries.specs.Settle.{Settled, Expanding}
use Rattle.slots.proofs.Cases.{kept}
use Rattle.keys.proofs.RunLaw.{behind_none, in_least}
use Rattle.entries.proofs.SettleLaw.{settled_many, settled_few, paired_shuffled, put_behind, expand_start, expand_step, expand_end, settled_counts, words_most}

module _ (l : List ℕ) (s : Bool) (p lim : ℕ) (w t : List ℕ) (P : Paired l s p w t) (e : lim ≡ limit_of s) where
  pub order_few : p ≤ lim → Settled l s p w t
  order_few h = settled_few l s p w t P (omega arith)

  pub order_many : (w' t' : List ℕ) → lim < p → Shuffled p w w' t t' → Rising w' t' 1 p → p ≤ length w → Settled l s p w' t'
  order_many w' t' h S R g =
      let q : length w' ≡ length w = S.words.size in
      settled_many l s p w' t' (paired_shuffled l s p w t P w' t' S (omega arith)) R (omega arith) (omega arith)

pub ruleset order_cases = (behind_none, order_few, order_many)

module _ (l : List ℕ) (s : Bool) (p : ℕ) (b t : List ℕ) (S : Settled l s p b t) where
  pub expand_none : Expanding l s p p b b
  expand_none = expand_start l s p b t S

  module _ (w : List ℕ) (k : ℕ) (E : Expanding l s p k b w) where
    module _ (pos : 0 < k) (most : k ≤ p) (v : ℕ) (ev : v ≡ get_or w (k - 1) 0) where
      pub expand_key : v < key_count l s
      expand_key =
          let n : length (table_keys l s) ≡ length (keys_of l s) = keys_many l s in
          let q : v ≡ key_at l s (k - 1) = ev ∙ E.front (k - 1) (omega arith) in
          rw q (key_below l s (k - 1) (omega (arith, S.number)))

      pub expand_word : key_count l s < 4294967295 → v < 4294967295
      expand_word h = let g = expand_key in omega arith

      pub expand_more : (w' : List ℕ) → Room l s b t → w' ≡ sets w (place_in s (k - 1)) (key_words l s v) → Expanding l s p (k - 1) b w'
      expand_more w' R ew =
          expand_step l s p b w w' k E v v S.number (let y : place_in s p ≤ length b = rw S.number R.words in y) pos most ev refl ew

    pub expand_all : k ≤ 0 → w ≡ put b 0 (table_words l s)
    expand_all h = expand_end l s p b w w k E S.number h

pub ruleset expand_cases = (kept, expand_none, expand_key, expand_word, expand_more, expand_all)

module _ (l : List ℕ) (s : Bool) (p : ℕ) (w w₁ t t₁ : List ℕ) (S : Settled l s p w₁ t₁) (A : Behind p w w₁) (B : Behind p t t₁) (R : Room l s w t) where
  pub settle_room : Room l s w₁ t₁
  settle_room = record { words = rw A.size R.words; tallies = rw B.size R.tallies }

  pub settle_made : (w₂ : List ℕ) → w₂ ≡ put w₁ 0 (table_words l s) → Made l s p w w₂ t t₁
  settle_made w₂ e = record {
    number = S.number;
    words = e ∙ put_behind p w w₁ (table_words l s) A (words_most l s p S.number);
    tallies = settled_counts l s p w₁ t t₁ S B (omega (arith, S.number, R.tallies));
  }

-- each run has room for the numbers, too
module _ (l : List ℕ) (s : Bool) (p : ℕ) (w t : List ℕ) (P : Paired l s p w t) (R : Room l s w t) where
  pub settle_words : p ≤ length w
  settle_words = let h = in_least s p in let g : place_in s p ≤ length w = rw P.number R.words in omega arith

  pub settle_tallies : p ≤ length t
  settle_tallies = omega (arith, P.number, R.tallies)

pub ruleset settle_cases = (kept, settle_room, settle_made, settle_words, settle_tallies)
