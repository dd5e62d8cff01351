-- One law for each return of a walk's functions.
use Prim.Native.Nat.{ℕ, ◌<◌, ◌≤◌}
use mathlib.Core.Bool.{Bool, true, false}
use mathlib.Core.Path.{◌≡◌, ap, ◌∙◌}
use mathlib.Core.List.{List, [], ◌∷◌}
use borrow.Author.Tests.{lt-ltb, le-ltb}
use lib.ListN.{length, set}
use Rattle.std.specs.Prelude.{Option, Some, None, Result, Ok, Err}
use Rattle.format.specs.Width.{span_size}
use Rattle.format.specs.Word.{put}
use Rattle.format.specs.Reader as format
use Rattle.format.specs.Walk as steps
use Rattle.format.specs.Loose.{Loose, bit}
use Rattle.tree.specs.Types.{span_list, tree_words_of}
use Rattle.tree.specs.declared.refusal.Refusal.{Refusal}
use Rattle.tree.specs.Loose.{loose_of}
use Rattle.tree.specs.declared.loose.ReportedTree.{ReportedTree}
use Rattle.walk.specs.Source.{answer_report}
use Rattle.walk.specs.Walk.{answer_of, Stepped}
use Rattle.walk.specs.Last.{last_of, LastFound}
use Rattle.walk.specs.declared.walk.Walk.{Walk}
use Rattle.walk.specs.declared.walk.Step.{Step}
use Rattle.walk.specs.declared.last_span.ReportedSpan.{ReportedSpan}
use Rattle.export.specs.Replies.{refused_code}
use Rattle.export.proofs.StoreCases.{last_stored}
use Rattle.export.specs.Steps.{reported_size, report_list, last_size, step_call, walk_list, StepStored, WalkReplied, LastStored, LastReplied}

-- an inner part of an answer
pub tree_is : (x : Result (Option ReportedTree) Refusal) (o v : Option ReportedTree) → x ≡ Ok o → o ≡ v → x ≡ Ok v
tree_is x o v e d = e ∙ ap Ok d

pub span_is : (x : Result (Option ReportedSpan) Refusal) (o v : Option ReportedSpan) → x ≡ Ok o → o ≡ v → x ≡ Ok v
span_is x o v e d = e ∙ ap Ok d

-- ---- a step

module _ (b : List ℕ) (k : ℕ) (parts symbols : List ℕ) (w : Walk) (skips : Bool) (s : Step) where
  pub step_skips : skips ≡ true → Stepped b k parts symbols steps.skip w s → Stepped b k parts symbols (step_call skips) w s
  step_skips e h = rw e h

  pub step_advances : skips ≡ false → Stepped b k parts symbols steps.advance w s → Stepped b k parts symbols (step_call skips) w s
  step_advances e h = rw e h

pub walk_stored : (w : Walk) (next next' : List ℕ) (left : ℕ) → (left ≡ w.left) × (left < 4294967296)
    → next' ≡ put next 0 (w.place ∷ w.number ∷ left ∷ []) → next' ≡ put next 0 (walk_list w)
walk_stored w next next' left e h = h ∙ ap (λ (x : ℕ). put next 0 (w.place ∷ w.number ∷ x ∷ [])) e.0

module _ (s : Step) (next words : List ℕ) where
  pub step_refused : (f : Refusal) (r : ℕ) → s.answer ≡ Err f → r ≡ refused_code f → StepStored s next words r next words
  unfolding answer_report answer_of
  step_refused f r e q = record { replied = record { reply = simp e q; after = simp e; handed = simp e } }

  module _ (next' : List ℕ) (n : next' ≡ put next 0 (walk_list s.walk)) where
    pub step_none : s.answer ≡ Ok None → StepStored s next words 0 next' words
    unfolding answer_report answer_of
    step_none e = record { replied = record { reply = simp e; after = simp e n; handed = simp e } }

    pub step_tree : (t : ReportedTree) (ts words' : List ℕ) → s.answer ≡ Ok (Some t) → ts ≡ tree_words_of t.tree → words' ≡ put words 0 (report_list (ts, loose_of t.loose))
        → StepStored s next words 1 next' words'
    unfolding answer_report answer_of
    step_tree t ts words' e d q = record { replied = record { reply = simp e; after = simp e n; handed = simp e (q ∙ ap (λ (u : List ℕ). put words 0 (report_list (u, loose_of t.loose))) d) } }

module _ (b : List ℕ) (k : ℕ) (parts symbols : List ℕ) (w : Walk) (skips : Bool) (next words : List ℕ) where
  pub walk_few : length next < 3 → WalkReplied b k parts symbols w skips next words 9223372062624579584 next words
  walk_few h = let t = lt-ltb (length next) 3 h in record { replied = record { reply = simp t; after = simp t; handed = simp t } }

  module _ (h : 3 ≤ length next) where
    pub walk_few_words : length words < reported_size → WalkReplied b k parts symbols w skips next words 9223372062624579584 next words
    walk_few_words g =
        let t = le-ltb (length next) 3 h in
        let u = lt-ltb (length words) reported_size g in
        record { replied = record { reply = simp (t, u); after = simp (t, u); handed = simp (t, u) } }

    pub walk_replied : reported_size ≤ length words → (s : Step) (r : ℕ) (next' words' : List ℕ) → Stepped b k parts symbols (step_call skips) w s
        → StepStored s next words r next' words' → WalkReplied b k parts symbols w skips next words r next' words'
    walk_replied g s r next' words' e q =
        let t = le-ltb (length next) 3 h in
        let u = le-ltb (length words) reported_size g in
        let a = e.reports in
        let p = q.replied in
        let x = ap (λ (y : format.Answer (List ℕ × Loose) × steps.Walk). y.0) a in
        let z = ap (λ (y : format.Answer (List ℕ × Loose) × steps.Walk). y.1) a in
        record {
          replied = record {
            reply = simp (t, u, ← x) p.reply;
            after = simp (t, u, ← x, ← z) p.after;
            handed = simp (t, u, ← x) p.handed;
          };
        }

-- ---- the last span

module _ (a : Result (Option ReportedSpan) Refusal) (words : List ℕ) where
  pub last_refused : (f : Refusal) (r : ℕ) → a ≡ Err f → r ≡ refused_code f → LastStored a words r words
  unfolding last_of
  last_refused f r e q = record { reply = simp e q; handed = simp e }

  pub last_none : a ≡ Ok None → LastStored a words 0 words
  unfolding last_of
  last_none e = record { reply = simp e; handed = simp e }

  pub last_some : (s : ReportedSpan) (v : List ℕ) (n : ℕ) → last_size ≤ length words → a ≡ Ok (Some s) → v ≡ put words 0 (span_list s.span) → n ≡ bit s.loose
      → LastStored a words 1 (set v span_size n)
  unfolding last_of
  last_some s v n h e q f = record { reply = simp e; handed = simp e (last_stored words v s n h q f) }

module _ (b : List ℕ) (k : ℕ) (parts symbols : List ℕ) (w : Walk) (words : List ℕ) where
  pub last_few : length words < last_size → LastReplied b k parts symbols w words 9223372062624579584 words
  last_few h = let t = lt-ltb (length words) last_size h in record { reply = simp t; handed = simp t }

  pub last_replied : last_size ≤ length words → (a : Result (Option ReportedSpan) Refusal) (r : ℕ) (words' : List ℕ) → LastFound b k parts symbols w a
      → LastStored a words r words' → LastReplied b k parts symbols w words r words'
  last_replied h a r words' e q = let t = le-ltb (length words) last_size h in let x = e.exact in record { reply = simp (t, ← x) q.reply; handed = simp (t, ← x) q.handed }

pub ruleset step_cases = (tree_is, span_is, step_skips, step_advances, walk_stored, step_refused, step_none, step_tree, walk_few, walk_few_words, walk_replied, last_refused, last_none, last_some, last_few, last_replied)
