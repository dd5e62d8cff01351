-- Runs of trees: what a chunk of indices says of its trees, and slots and arrays that keep their lengths.
use Prim.Native.Nat.{ℕ, ◌+◌, ◌*◌, ◌-◌, ◌≤◌, ◌<◌}
use mathlib.Core.Path.{◌≡◌, refl, ap, subst, ◌∙◌}
use mathlib.Core.List.{List}
use native.Mathlib.Omega.{arith}
use native.Mathlib.Nat.{add-zero}
use borrow.Author.Tests.{ne_eqb}
use lib.ListN.{length, get_or}
use Rattle.format.specs.Width.{tree_size}
use Rattle.format.specs.Tables.{Mode}
use Rattle.format.specs.WordList.{word_of, raw_from, list_count}
use Rattle.format.specs.Writer.{raw_of}
use Rattle.places.specs.Places.{below_root, Roomy, Indexed, Resolved}
use Rattle.passes.specs.Runs.{mode_by}
use Rattle.passes.specs.declared.runs.Runs.{Runs}
use Rattle.passes.specs.Run.{Lent, Ready, Kept, Run}

-- the sort of tree n
pub first_word : (l : List ℕ) (n : ℕ) → word_of l n 0 ≡ get_or l (tree_size * n) 0
first_word l n = ap (λ i. get_or l i 0) (add-zero (tree_size * n))

-- tree n of a run
pub run_tree : (M : Mode) (l : List ℕ) (from stop n : ℕ) (os cs ys : List ℕ) → Run M l from stop os cs ys → from ≤ n → n < stop
    → raw_from (get_or os (n - from) 0) (get_or cs (n - from) 0) (get_or ys (n - from) 0) (word_of l n) ≡ raw_of M l n
run_tree M l from stop n os cs ys r g h =
    let a = r.last in
    let b = r.fits in
    let e : from + (n - from) ≡ n = omega arith in
    subst (λ m. raw_from (get_or os (n - from) 0) (get_or cs (n - from) 0) (get_or ys (n - from) 0) (word_of l m) ≡ raw_of M l m) e (r.resolved.at (n - from) (omega arith) (omega arith))

roomy_kept : (g a b c d c' d' : ℕ) → Roomy g a b c d → c' ≡ c → d' ≡ d → Roomy g a b c' d'
roomy_kept g a b c d c' d' r e f = rw (e, f) r

-- trees below the root by the tables that they were resolved over
resolved_in : (t : Runs) (l : List ℕ) (from m : ℕ) (os cs ys : List ℕ) → 1 ≤ from → Resolved (below_root t.limits.limit t.parts.now t.symbols.now) l from m os cs ys → Resolved (mode_by t) l from m os cs ys
resolved_in t l from m os cs ys h R = record {
  at = λ j k i.
      let z = ne_eqb (from + j) 0 (λ e. absurd (omega arith)) in
      simp z (simp z at (R.at j k i));
}

module _ (t : Runs) (ps ss os cs ys : List ℕ) (r : Ready t ps ss os cs ys) where
  pub ready_roomy : Roomy t.limits.limit (length t.parts.now) (length t.symbols.now) (length ps) (length ss)
  ready_roomy = r.lent.roomy

  pub ready_indexed : Indexed t.limits.limit t.parts.now t.symbols.now ps ss
  ready_indexed = r.indexed

  module _ (os' cs' ys' : List ℕ) (eo : length os' ≡ length os) (ec : length cs' ≡ length cs) (ey : length ys' ≡ length ys) where
    pub ready_next : (ps' ss' : List ℕ) → Indexed t.limits.limit t.parts.now t.symbols.now ps' ss' → length ps' ≡ length ps → length ss' ≡ length ss → Ready t ps' ss' os' cs' ys'
    ready_next ps' ss' i ep es =
        let a = r.lent.some in
        let b = r.lent.even_closes in
        let c = r.lent.even_syms in
        record {
          lent = record {
            roomy = roomy_kept t.limits.limit (length t.parts.now) (length t.symbols.now) (length ps) (length ss) (length ps') (length ss') r.lent.roomy ep es;
            some = omega arith;
            even_closes = omega arith;
            even_syms = omega arith;
          };
          indexed = i;
        }

    -- the run that was resolved
    pub run_next : (l : List ℕ) (from stop : ℕ) → Resolved (below_root t.limits.limit t.parts.now t.symbols.now) l from (length os) os' cs' ys' → 1 ≤ from → from < stop → stop ≤ list_count l → stop ≤ from + length os
        → Run (mode_by t) l from stop os' cs' ys'
    run_next l from stop i h₁ h₂ h₃ h₄ =
        let b = r.lent.even_closes in
        let c = r.lent.even_syms in
        record {
          resolved = rw eo (resolved_in t l from (length os) os' cs' ys' h₁ i);
          below = h₁;
          some = omega arith;
          last = h₃;
          fits = omega arith;
          even_closes = omega arith;
          even_syms = omega arith;
        }

module _ (t : Runs) (ps ss os cs ys : List ℕ) (r : Lent t ps ss os cs ys) where
  pub lent_roomy : Roomy t.limits.limit (length t.parts.now) (length t.symbols.now) (length ps) (length ss)
  lent_roomy = r.roomy

  pub lent_ready : (ps' ss' : List ℕ) → Indexed t.limits.limit t.parts.now t.symbols.now ps' ss' → length ps' ≡ length ps → length ss' ≡ length ss → Ready t ps' ss' os cs ys
  lent_ready ps' ss' i ep es =
      record {
        lent = record {
          roomy = roomy_kept t.limits.limit (length t.parts.now) (length t.symbols.now) (length ps) (length ss) (length ps') (length ss') r.roomy ep es;
          some = r.some;
          even_closes = r.even_closes;
          even_syms = r.even_syms;
        };
        indexed = i;
      }

module _ (ps ss os cs ys ps₀ ss₀ os₀ cs₀ ys₀ : List ℕ) where
  pub kept_next : Kept ps ss os cs ys ps₀ ss₀ os₀ cs₀ ys₀ → (ps' ss' os' cs' ys' : List ℕ)
      → length ps' ≡ length ps → length ss' ≡ length ss → length os' ≡ length os → length cs' ≡ length cs → length ys' ≡ length ys
      → Kept ps' ss' os' cs' ys' ps₀ ss₀ os₀ cs₀ ys₀
  kept_next k ps' ss' os' cs' ys' a b c d e =
      record {
        of_part_slots = a ∙ k.of_part_slots;
        of_symbol_slots = b ∙ k.of_symbol_slots;
        of_opens = c ∙ k.of_opens;
        of_closes = d ∙ k.of_closes;
        of_syms = e ∙ k.of_syms;
      }

pub kept_none : (ps ss os cs ys : List ℕ) → Kept ps ss os cs ys ps ss os cs ys
kept_none ps ss os cs ys = record { of_part_slots = refl; of_symbol_slots = refl; of_opens = refl; of_closes = refl; of_syms = refl }

-- … and so are those before one of them
pub run_part : (M : Mode) (l os cs ys : List ℕ) (count : ℕ) → Run M l 1 (list_count l) os cs ys → (count ≡ 0 → ⊥) → count ≤ list_count l → Run M l 1 count os cs ys
run_part M l os cs ys count r h k =
    let a = r.fits in
    record {
      resolved = r.resolved;
      below = r.below;
      some = omega arith;
      last = k;
      fits = omega arith;
      even_closes = r.even_closes;
      even_syms = r.even_syms;
    }

-- the next run
pub run_after : (n stop : ℕ) → 1 ≤ n → n < stop → 1 ≤ stop
run_after n stop a b = omega arith

pub run_before : (from n k : ℕ) → from < n → n ≤ k → from ≤ k
run_before from n k a b = omega arith

pub ruleset run_cases = (run_after, run_before, ready_roomy, ready_indexed, ready_next, run_next)
