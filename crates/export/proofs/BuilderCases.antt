-- One law for each return of the builder's functions.
use Prim.Native.Nat.{ℕ, ◌<◌}
use mathlib.Core.Bool.{Bool, true, false}
use mathlib.Core.Path.{◌≡◌, refl, ap, ◌∙◌, subst}
use mathlib.Core.List.{List, [], ◌∷◌}
use Rattle.std.specs.Prelude.{Result, Ok, Err}
use Rattle.format.specs.Verdict as format
use Rattle.format.specs.Width.{span_size}
use Rattle.format.specs.Builder.{Step, builder_step, new_verdict, new, point_verdict, restore_point}
use Rattle.format.specs.Builder as steps
use Rattle.tree.specs.Types.{words_of}
use Rattle.tree.specs.Refusal.{verdict_answer}
use Rattle.tree.specs.declared.refusal.Refusal.{Refusal}
use Rattle.tree.specs.declared.types.Span.{Span}
use Rattle.builder.specs.State.{seen}
use Rattle.builder.specs.Restoring.{point_answer}
use Rattle.builder.specs.Taken.{Begun, Taken}
use Rattle.builder.specs.Building.{Built, BuiltSkipping}
use Rattle.builder.specs.declared.state.Builder.{Builder}
use Rattle.builder.specs.declared.state.Point.{Point}
use Rattle.builder.specs.declared.state.Stepped.{Stepped}
use Rattle.export.specs.Replies.{refused_code, verdict_code, report_code}
use Rattle.export.specs.Roots.{span_in}
use Rattle.export.specs.Builders.{lent, state_list, StepStored, Handed, NewReplied, StepReplied, PointReplied, BuildReplied}

pub step_stored : (s : Stepped) (r n : ℕ) → (n ≡ s.builder.count) × (n < 4294967296) → r ≡ verdict_code s.verdict
    → StepStored s r (n ∷ s.builder.depth ∷ []) s.builder.opened
step_stored s r n e q = record { reply = q; state = ap (λ (x : ℕ). x ∷ s.builder.depth ∷ []) e.0; numbers = refl }

-- ---- the steps

module _ (s : Stepped) (r : ℕ) (next' opened' : List ℕ) (p : StepStored s r next' opened') where
  handed : (v : format.Verdict) (b : Builder) → s.verdict ≡ verdict_answer v → s.builder ≡ b → Handed v b r next' opened'
  handed v b e f =
      record {
        reply = p.reply ∙ ap verdict_code e;
        state = p.state ∙ ap state_list f;
        numbers = p.numbers ∙ ap (λ (x : Builder). x.opened) f;
      }

  begun : (kind : ℕ) (o c : Span) (l l' : List ℕ) → Begun kind o c l s l' → NewReplied kind o c l r next' opened' l'
  begun kind o c l l' h = record { handed = handed _ _ h.answer h.builder; words = h.words }

  stepped : (t : Step) (b : Builder) (l l' : List ℕ) → Taken t b l s l' → StepReplied t b l r next' opened' l'
  stepped t b l l' h = record { handed = handed _ _ h.answer h.builder; words = h.words }

  pub new_replied : (kind : ℕ) (w : List ℕ) (o c : Span) (l l' : List ℕ) → o ≡ span_in w 0 → c ≡ span_in w span_size → Begun kind o c l s l'
      → NewReplied kind (span_in w 0) (span_in w span_size) l r next' opened' l'
  new_replied kind w o c l l' e f h =
      subst (λ (x : Span). NewReplied kind (span_in w 0) x l r next' opened' l') f
      (subst (λ (x : Span). NewReplied kind x c l r next' opened' l') e (begun kind o c l l' h))

  module _ (n d : ℕ) (a l : List ℕ) where
    pub push_replied : (w l' : List ℕ) → Taken (steps.push w) (lent n d a) l s l' → StepReplied (steps.push w) (lent n d a) l r next' opened' l'
    push_replied w l' h = stepped _ _ l l' h

    pub open_replied : (k : ℕ) (w : List ℕ) (o : Span) (l' : List ℕ) → o ≡ span_in w 0 → Taken (steps.open_subtree k (words_of o)) (lent n d a) l s l'
        → StepReplied (steps.open_subtree k (words_of (span_in w 0))) (lent n d a) l r next' opened' l'
    open_replied k w o l' e h =
        subst (λ (x : Span). StepReplied (steps.open_subtree k (words_of x)) (lent n d a) l r next' opened' l') e (stepped _ _ l l' h)

    pub close_replied : (w : List ℕ) (c : Span) (l' : List ℕ) → c ≡ span_in w 0 → Taken (steps.close_subtree (words_of c)) (lent n d a) l s l'
        → StepReplied (steps.close_subtree (words_of (span_in w 0))) (lent n d a) l r next' opened' l'
    close_replied w c l' e h =
        subst (λ (x : Span). StepReplied (steps.close_subtree (words_of x)) (lent n d a) l r next' opened' l') e (stepped _ _ l l' h)

    pub restore_replied : (t o : ℕ) → Taken (steps.restore (record { trees = t; opened = o })) (lent n d a) l s l
        → StepReplied (steps.restore (record { trees = t; opened = o })) (lent n d a) l r next' opened' l
    restore_replied t o h = stepped _ _ l l h

-- ---- points

module _ (n d : ℕ) (a l w : List ℕ) (q : Result Point Refusal) (e : q ≡ point_answer (point_verdict l (seen (lent n d a))) (restore_point l (seen (lent n d a)))) where
  pub point_refused : (f : Refusal) (r : ℕ) → q ≡ Err f → r ≡ refused_code f → PointReplied (lent n d a) l w r w
  point_refused f r k h = record { reply = simp (← e, k) h; contents = simp (← e, k) }

  pub point_taken : (p : Point) → q ≡ Ok p → PointReplied (lent n d a) l w 0 (p.trees ∷ p.opened ∷ [])
  point_taken p k = record { reply = simp (← e, k); contents = simp (← e, k) }

-- ---- building

module _ (n d : ℕ) (a l parts symbols work out : List ℕ) (skips : Bool) (q : Result ℕ Refusal) (r : ℕ) (work' out' : List ℕ) (c : r ≡ report_code q) where
  pub build_skips : skips ≡ true → BuiltSkipping (lent n d a) l parts symbols work out q work' out'
      → BuildReplied (lent n d a) skips l parts symbols work out r work' out'
  build_skips e h = record { reply = c ∙ rw e (ap report_code h.answer); words = rw e h.works; bytes = rw e h.outs }

  pub build_whole : skips ≡ false → Built (lent n d a) l parts symbols work out q work' out'
      → BuildReplied (lent n d a) skips l parts symbols work out r work' out'
  build_whole e h = record { reply = c ∙ rw e (ap report_code h.answer); words = rw e h.works; bytes = rw e h.outs }

pub ruleset builder_cases = (step_stored, push_replied, restore_replied, point_refused, point_taken, build_skips, build_whole)
