-- Laws for the functions that try one size of arrays after the other.
use Prim.Native.Nat.{ℕ, ◌<◌, ◌≤◌}
use mathlib.Core.Path.{◌≡◌, refl, ap, sym, ◌∙◌}
use mathlib.Core.Bool.{Bool}
use Rattle.std.specs.Prelude.{Option}
use mathlib.Core.List.{List}
use native.Mathlib.Omega.{arith}
use lib.ListN.{length, get_or}
use lib.Seq.{take_all}
use Rattle.format.proofs.Tally.{amount, tally_same}
use Rattle.format.specs.MakeTables.{key_count, keys_of, times_of, table_counts}
use Rattle.format.proofs.TableKeys.{keys_many, keys_most, counts_many}
use Rattle.keys.specs.Runs.{Room}
use Rattle.entries.specs.Runs.{Made}
use Rattle.distinct.specs.Pairs.{Scanned, Paired}
use Rattle.distinct.specs.Classes.{PairedIf}
use Rattle.slots.proofs.Cases.{kept}
use Rattle.distinct.proofs.ScanReturns.{scanned_room, scanned_fits}
use Rattle.distinct.proofs.Amounts.{tally_take}
use Rattle.entries.proofs.SettleLaw.{put_behind, words_most}

module _ (l : List ℕ) (s : Bool) (n p : ℕ) (w w₁ t t₁ : List ℕ) (S : Scanned l s n p w w₁ t t₁) (e : n ≡ key_count l s) where
  numbers : (p ≡ length (keys_of l s)) × ((k : ℕ) → k < p → get_or w₁ k 0 ≡ get_or (keys_of l s) k 0) × ((k : ℕ) → k < p → get_or t₁ k 0 ≡ times_of l s (get_or (keys_of l s) k 0))
  unfolding keys_of times_of
  numbers = let G = rw e at S.gathered in (G.number, G.keys, G.counts)

  pub large_paired : Paired l s p w₁ t₁
  large_paired =
      let n = numbers in
      record {
        number = n.0;
        keys = λ f.
            tally_same (λ i. f (get_or w₁ i 0)) (λ i. f (get_or (keys_of l s) i 0)) p (λ i h. ap f (n.1 i h))
            ∙ sym (tally_take f (keys_of l s) p (omega (arith, n.0)))
            ∙ ap (amount f) (take_all p (keys_of l s) (omega (arith, n.0)));
        counts = λ k h. n.2 k h ∙ ap (times_of l s) (sym (n.1 k h));
        turn = λ _ k h. n.1 k h;
      }

  pub large_made : (w₂ t₂ : List ℕ) → Made l s p w₁ w₂ t₁ t₂ → Made l s p w w₂ t t₂
  large_made w₂ t₂ M =
      let k : p ≤ length (table_counts l s) = omega (arith, counts_many l s, keys_many l s, M.number) in
      record {
        number = M.number;
        words = M.words ∙ put_behind p w w₁ _ S.words (words_most l s p M.number);
        tallies = M.tallies ∙ put_behind p t t₁ (table_counts l s) S.tallies k;
      }

pub large_room : (l : List ℕ) (s : Bool) (n p : ℕ) (w w₁ t t₁ : List ℕ) → Scanned l s n p w w₁ t t₁ → Room l s w t → Room l s w₁ t₁
large_room l s n p w w₁ t t₁ S R = scanned_room l s w t n p w₁ t₁ S R

pub large_fits : (l : List ℕ) (s : Bool) (n p : ℕ) (w w₁ t t₁ : List ℕ) → Scanned l s n p w w₁ t t₁ → n < 4294967295 → p < 4294967295
large_fits l s n p w w₁ t t₁ S h = scanned_fits l s w t n p w₁ t₁ S n (omega arith) h

module _ (l : List ℕ) (s : Bool) (p : Option ℕ) (w w₁ t t₁ : List ℕ) (P : PairedIf l s p w w₁ t t₁) where
  pub quick_room : Room l s w t → Room l s w₁ t₁
  quick_room R = record { words = rw P.scratched.words.size R.words; tallies = rw P.scratched.tallies.size R.tallies }

  pub quick_made : (q : ℕ) (w₂ t₂ : List ℕ) → Made l s q w₁ w₂ t₁ t₂ → Made l s q w w₂ t t₂
  quick_made q w₂ t₂ M =
      let k : length (keys_of l s) ≤ length (table_counts l s) = omega (arith, counts_many l s, keys_many l s) in
      record {
        number = M.number;
        words = M.words ∙ put_behind (length (keys_of l s)) w w₁ _ P.scratched.words (words_most l s (length (keys_of l s)) refl);
        tallies = M.tallies ∙ put_behind (length (keys_of l s)) t t₁ (table_counts l s) P.scratched.tallies k;
      }

pub ruleset large_cases = (kept, large_paired, large_made, large_room, large_fits)

module _ (l : List ℕ) (s : Bool) (p : ℕ) (h : key_count l s < 4294967295) where
  pub number_fits : p ≡ length (keys_of l s) → p < 4294967295
  number_fits e = let a = keys_many l s in let b = keys_most l s in omega arith

  pub paired_fits : (w t : List ℕ) → Paired l s p w t → p < 4294967295
  paired_fits w t P = number_fits P.number

  pub made_fits : (w w₁ t t₁ : List ℕ) → Made l s p w w₁ t t₁ → p < 4294967295
  made_fits w w₁ t t₁ M = number_fits M.number
