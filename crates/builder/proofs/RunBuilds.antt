-- What `build` and `build_skip_top_subtree` return after a run of calls from `new` is what the writer returns of the list that the steps have made.
use Prim.Native.Nat.{ℕ}
use mathlib.Core.Bool.{Bool, true, false, not, ◌&&◌}
use mathlib.Core.Path.{◌≡◌, refl, sym, ap, ◌∙◌, subst}
use mathlib.Core.List.{List, []}
use lib.ListN.{length}
use lib.Dec.{eqb}
use borrow.Author.Tests.{ne_eqb}
use Rattle.std.specs.Prelude.{Result, Ok}
use Rattle.format.specs.Verdict.{passed, refused, refusal, rule}
use Rattle.format.specs.WordList.{list_rows}
use Rattle.format.specs.Builder.{new, Step, builder_from, disagrees, ready, build, build_skip_top_subtree, written}
use Rattle.format.specs.Builder as format
use Rattle.builder.specs.Frames.{Model, model_from, model_list, model_skip}
use Rattle.builder.proofs.BuilderBuild.{run_build, run_build_skip, run_rows, run_skip_rows}
use Rattle.tree.specs.Refusal.{report_answer}
use Rattle.tree.specs.Types.{words_of}
use Rattle.tree.specs.declared.types.Span.{Span}
use Rattle.writer.specs.Written.{Written}
use Rattle.builder.specs.declared.state.Builder.{Builder}
use Rattle.builder.specs.declared.state.Stepped.{Stepped}
use Rattle.builder.specs.State.{numbers, seen}
use Rattle.builder.specs.Taken.{Begun}
use Rattle.builder.specs.Building.{Made, Built, BuiltSkipping}
use Rattle.builder.proofs.Numbers.{numbers_length}
use Rattle.builder.proofs.Runs.{Ran, from_new, new_passed}
use Rattle.tree.specs.declared.refusal.Refusal.{Refusal}

nothing_open : (a : List ℕ) (d : ℕ) → d ≡ 0 → numbers a d ≡ []
unfolding numbers
nothing_open a d e = rw e

-- the writer's contract: what it made of a list
as_written : (parts symbols work out q : List ℕ) (r : Result ℕ Refusal) (work' out' : List ℕ) → Made (written parts symbols work out q) r work' out' → Written parts symbols q work out r work' out'
as_written parts symbols work out q r work' out' h = record { answer = h.answer; works = h.works; outs = h.outs }

module _ (kind : ℕ) (o c : Span) (l : List ℕ) (r₀ : Stepped) (l₀ : List ℕ) (begun : Begun kind o c l r₀ l₀) (ok : r₀.verdict ≡ Ok tt)
    (ss : List Step) (b : Builder) (m : List ℕ) (ran : Ran ss r₀.builder l₀ b m) (shut : b.depth ≡ 0) where
  -- the trees that the steps not refused have made
  abbrev model : Model
  model = model_from kind (words_of o) (words_of c) l ss

  fresh : (new kind (words_of o) (words_of c) l).verdict ≡ passed
  fresh = new_passed kind o c l r₀ l₀ begun ok

  none_open_lem : (builder_from kind (words_of o) (words_of c) l ss).builder.opened ≡ []
  none_open_lem =
      let x = from_new kind o c l r₀ l₀ begun ss b m ran in
      sym (ap (λ (u : format.Builder). u.opened) x.builder) ∙ nothing_open b.opened b.depth shut

  -- r is the report that was returned, work' and out' what the lent runs hold then
  module _ (parts symbols work out : List ℕ) (r : Result ℕ Refusal) (work' out' : List ℕ) where
    -- BUILD: what the writer returns of the list pushed so far
    pub run_built : Built b m parts symbols work out r work' out' → Written parts symbols (model_list (model_from kind (words_of o) (words_of c) l ss)) work out r work' out'
    run_built h =
        let x = from_new kind o c l r₀ l₀ begun ss b m ran in
        let e : build parts symbols work out m (seen b) ≡ written parts symbols work out (model_list model) =
        (λ i. build parts symbols work out (x.words i) (x.builder i)) ∙ run_build kind (words_of o) (words_of c) l ss fresh none_open_lem parts symbols work out in
        as_written parts symbols work out (model_list model) r work' out' (subst (λ (z : format.Built). Made z r work' out') e h)

    pub run_built_skipping : BuiltSkipping b m parts symbols work out r work' out'
        → Written parts symbols (model_skip (model_from kind (words_of o) (words_of c) l ss)) work out r work' out'
    run_built_skipping h =
        let x = from_new kind o c l r₀ l₀ begun ss b m ran in
        let e : build_skip_top_subtree parts symbols work out m (seen b) ≡ written parts symbols work out (model_skip model) =
        (λ i. build_skip_top_subtree parts symbols work out (x.words i) (x.builder i)) ∙ run_build_skip kind (words_of o) (words_of c) l ss fresh none_open_lem parts symbols work out in
        as_written parts symbols work out (model_skip model) r work' out' (subst (λ (z : format.Built). Made z r work' out') e h)

  -- rows 1 to 4 are silent on that list
  pub run_lawful : list_rows (model_list (model_from kind (words_of o) (words_of c) l ss)) ≡ passed
  run_lawful = run_rows kind (words_of o) (words_of c) l ss fresh none_open_lem

  pub run_skip_lawful : list_rows (model_skip (model_from kind (words_of o) (words_of c) l ss)) ≡ passed
  run_skip_lawful = run_skip_rows kind (words_of o) (words_of c) l ss fresh none_open_lem

-- "10 while one is open": nothing is changed, after any calls
module _ (b : Builder) (m : List ℕ) (open_one : b.depth ≡ 0 → ⊥) (parts symbols work out : List ℕ) (r : Result ℕ Refusal) (work' out' : List ℕ) where
  not_ready : ready m (seen b) ≡ refused 10 0
  not_ready =
      let q = ne_eqb (length (numbers b.opened b.depth)) 0 (λ i. open_one (sym (numbers_length b.opened b.depth) ∙ i)) in
      unready (not (disagrees m (seen b))) (eqb (length (numbers b.opened b.depth)) 0) q
    where
      unready : (x y : Bool) → y ≡ false → rule (x && y) 10 0 ≡ refused 10 0
      unready true y e = rw e
      unready false y e = refl

  pub open_unbuilt : Built b m parts symbols work out r work' out' → (r ≡ report_answer (refusal 10 0)) × (work' ≡ work) × (out' ≡ out)
  open_unbuilt h = let n = not_ready in (h.answer ∙ rw n, h.works ∙ rw n, h.outs ∙ rw n)

  pub open_unbuilt_skipping : BuiltSkipping b m parts symbols work out r work' out' → (r ≡ report_answer (refusal 10 0)) × (work' ≡ work) × (out' ≡ out)
  open_unbuilt_skipping h = let n = not_ready in (h.answer ∙ rw n, h.works ∙ rw n, h.outs ∙ rw n)
