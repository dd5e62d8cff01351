-- One law for each return of the functions of src/preview.rt, with premises as the code's tests and calls give them.
use Prim.Native.Nat.{ℕ, ◌+◌, ◌*◌, ◌-◌, ◌/◌, ◌<◌, ◌≤◌}
use mathlib.Core.Bool.{Bool, true, false, ◌&&◌}
use mathlib.Core.Path.{◌≡◌, refl, sym, ap, ◌∙◌, subst}
use mathlib.Core.List.{List}
use native.Mathlib.Omega.{arith}
use borrow.Author.Tests.{le-leb, ne_eqb, eqb-true, eqb-false}
use lib.Dec.{eqb}
use lib.ListN.{length, take, drop, get_or}
use Rattle.std.proofs.Common.{Result, Ok, Err}
use Rattle.format.specs.Verdict.{passed}
use Rattle.format.specs.Word.{put}
use Rattle.format.specs.Width.{tree_size, part_size}
use Rattle.format.specs.Write.{work_words}
use Rattle.format.specs.Tables.{own_mode, own_tables}
use Rattle.format.specs.WordList.{list_count, list_sized, list_rules, list_rows}
use Rattle.format.specs.Writer.{list_verdict, trees, packed, work_verdict}
use Rattle.format.specs.Builder.{holding_all}
use Rattle.format.specs.MakeTables.{part_table, symbol_table, part_total}
use Rattle.format.specs.Replace.{fresh_bytes}
use Rattle.format.specs.Unpack.{count_work}
use Rattle.format.proofs.Kept.{kept}
use Rattle.format.proofs.Put.{put_at, put_behind}
use Rattle.format.proofs.WriteSize.{work_size}
use Rattle.format.proofs.Holding.{lawful_holding}
use Rattle.tree.specs.declared.refusal.Refusal.{Refusal}
use Rattle.passes.specs.Tail.{rest_of}
use Rattle.passes.proofs.TailLaw.{work_at}
use Rattle.writer.specs.Written.{Written}
use Rattle.replace.specs.Report.{told_sizes, replace_answer}
use Rattle.replace.specs.Own.{OwnTables}
use Rattle.replace.specs.Prepared.{PreparedIn}
use Rattle.replace.specs.Previewed.{FreshFound, Previewed}
use Rattle.replace.specs.declared.fresh.Counted.{Counted}
use Rattle.replace.specs.declared.report.Sizes.{Sizes}
use Rattle.replace.proofs.FreshReturns.{own_verdict, own_bytes, own_parts, own_symbols}
use Rattle.replace.proofs.PrepareReturns.{why_refused, work_passed, there_is, left_then, there_cases}

-- ---- the sizes

module _ (l p s d : List ℕ) (T : OwnTables l p s) (g : count_work (list_count l) ≤ length d) where
  lawful : ((list_sized l && (own_tables p s).sized) ≡ true) × (list_rules l ≡ passed) × (holding_all l ≡ l)
  lawful = lawful_holding p s l (own_verdict l p s T)

  pub own_sized : (list_sized l && (own_tables p s).sized) ≡ true
  own_sized = lawful.0

  pub held_ruled : list_rules (holding_all l) ≡ passed
  held_ruled = ap list_rules lawful.2 ∙ lawful.1

  module _ (x : List ℕ) (r : Result ℕ Refusal) (d' x' : List ℕ) (W : Written p s (holding_all l) d x r d' x') where
    works : work_verdict p s l d x ≡ passed
    works = simp (own_verdict l p s T, le-leb (list_count l + 1) (length d) (omega arith))

    filled : d' ≡ put d 0 (work_words (trees p s l))
    filled = let v = works in (subst (λ (m : List ℕ). Written p s m d x r d' x') lawful.2 W).works ∙ rw v

    -- the first size is that of all trees
    first_is : get_or (work_words (trees p s l)) 0 0 ≡ length (packed p s l)
    unfolding rest_of
    first_is = work_at (own_mode p s) l 0

    pub sizes_found : (i : ℕ) → i ≡ get_or d' 0 0 → FreshFound l (record { bytes = i; parts = length p / part_size; symbols = length s }) d d'
    sizes_found i f =
        let m = work_size p s l in
        record {
          bytes = f ∙ ap (λ (v : List ℕ). get_or v 0 0) filled ∙ put_at d 0 (work_words (trees p s l)) (omega arith) 0 (omega arith) ∙ first_is ∙ ap length (own_bytes l p s T);
          parts = own_parts l p s T;
          symbols = own_symbols l p s T;
          counts_behind = ap (drop (count_work (list_count l))) filled ∙ put_behind d 0 (work_words (trees p s l)) (omega arith) (count_work (list_count l)) (omega arith);
        }

-- ---- the answer

module _ (b : List ℕ) (k : ℕ) (parts symbols : List ℕ) (n : ℕ) (w a c d : List ℕ) (q : Result Counted Refusal) (a₁ c₁ d₁ : List ℕ) (P : PreparedIn b k parts symbols n w a c d q a₁ c₁ d₁) where
  pub none_previewed : (why : Refusal) → q ≡ Err why → Previewed b k parts symbols n w a c d (Err why) a₁ c₁ d₁
  unfolding replace_answer
  none_previewed why e =
      let f = why_refused b k parts symbols n w a c d q a₁ c₁ d₁ P why e in
      record { answer = rw f; left = P.left }

  pub all_previewed : (t : Counted) → q ≡ Ok t → (p : ℕ) → p ≡ k → (m : List ℕ) → m ≡ take (tree_size * p - 0) (drop 0 a₁) → (i : Sizes) (d₂ : List ℕ) → FreshFound m i d₁ d₂
      → Previewed b k parts symbols n w a c d (Ok i) a₁ c₁ d₂
  unfolding replace_answer
  all_previewed t e p j m o i d₂ F =
      let v = work_passed b k parts symbols n w a c d q a₁ c₁ d₁ P t e in
      let l = o ∙ there_is b k parts symbols n w a c d q a₁ c₁ d₁ P t e p j in
      let x = F.bytes ∙ ap (λ (m : List ℕ). length (fresh_bytes m)) l in
      let y = F.parts ∙ ap part_total l in
      let z = F.symbols ∙ ap (λ (m : List ℕ). length (symbol_table m)) l in
      record {
        answer = (λ o. told_sizes (x o) (y o) (z o)) ∙ rw v;
        left = left_then b k parts symbols n w a c d q a₁ c₁ d₁ P t e p j m o d₂ F.counts_behind;
      }

pub ruleset preview_cases = (none_previewed, all_previewed, there_cases, kept)

-- ---- a leaf by value

pub leaf_previewed : (b : List ℕ) (k : ℕ) (parts symbols : List ℕ) (n : ℕ) (w a c d : List ℕ) (r : Result Sizes Refusal) (a' c' d' v : List ℕ) → v ≡ w
    → Previewed b k parts symbols n v a c d r a' c' d' → Previewed b k parts symbols n w a c d r a' c' d'
leaf_previewed b k parts symbols n w a c d r a' c' d' v e R = subst (λ (u : List ℕ). Previewed b k parts symbols n u a c d r a' c' d') e R

pub ruleset leaf_cases = (leaf_previewed, kept)
