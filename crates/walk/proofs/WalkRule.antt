-- DEMAND 3 of the walk's functions: over a buffer that the check passed, every list of calls answers as the plain machine does.
use Prim.Native.Nat.{ℕ, ◌+◌, ◌-◌, ◌<◌}
use mathlib.Core.Bool.{true}
use mathlib.Core.Path.{◌≡◌, refl, sym, ap, ◌∙◌}
use mathlib.Core.List.{List, [], ◌∷◌, map}
use lib.ListN.{replicate}
use Rattle.std.specs.Prelude.{Option, Result}
use Rattle.format.specs.Verdict.{passed}
use Rattle.format.specs.Reader.{Reader, Answer, one}
use Rattle.format.specs.Walk as steps
use Rattle.format.specs.Walk.{WalkCall, advance, skip, walk_run, walk_end, fresh_walk}
use Rattle.format.specs.Plain.{sub, plain_walk_run}
use Rattle.format.specs.Check.{listing}
use Rattle.format.specs.Buffer.{word_shape, own_reader, buffer_check}
use Rattle.format.specs.LastSpan.{end_span, last_span, end_loose, last_reported}
use Rattle.format.specs.Loose.{Loose, loose_at, reported_shape, reported}
use Rattle.format.proofs.Own.{own_walk_rule, own_last_span}
use Rattle.format.proofs.OwnReported.{own_reported_rule, own_last_reported}
use Rattle.tree.specs.declared.refusal.Refusal.{Refusal}
use Rattle.walk.specs.Walk.{walk_of, step_words, step_report, Stepped}
use Rattle.walk.specs.Last.{last_of, last_words, LastFound}
use Rattle.walk.specs.Run.{Ran, walk_after}
use Rattle.walk.specs.declared.walk.Walk.{Walk}
use Rattle.walk.specs.declared.walk.Step.{Step}
use Rattle.walk.specs.declared.last_span.ReportedSpan.{ReportedSpan}

module _ (b : List ℕ) (k : ℕ) (parts symbols : List ℕ) where
  abbrev O : Reader (List ℕ)
  O = own_reader b k parts symbols

  -- the walk of `fresh`
  pub fresh_is : (w : Walk) → walk_of w ≡ record { place = 0; number = 0; left = k } → walk_of w ≡ fresh_walk O
  unfolding own_reader
  fresh_is w e = e

  -- over every buffer: what the functions hand back is the definitions' run
  pub ran_is : (calls : List WalkCall) (w : Walk) (ss : List Step) → Ran b k parts symbols calls w ss → map step_words ss ≡ walk_run word_shape O calls (walk_of w)
  unfolding Ran walk_run
  ran_is [] w [] r = refl
  ran_is [] w (s ∷ ss) r = absurd r
  ran_is (c ∷ cs) w [] r = absurd r
  ran_is (c ∷ cs) w (s ∷ ss) r =
      ap (λ x. step_words s ∷ x) (ran_is cs s.walk ss r.1)
      ∙ ap (λ (x : Answer (List ℕ) × steps.Walk). x ∷ walk_run word_shape O cs x.1) r.0.words

  -- … and with reports
  pub ran_reported : (calls : List WalkCall) (w : Walk) (ss : List Step) → Ran b k parts symbols calls w ss → map step_report ss ≡ walk_run (reported_shape word_shape) (reported (loose_at b) O) calls (walk_of w)
  unfolding Ran walk_run
  ran_reported [] w [] r = refl
  ran_reported [] w (s ∷ ss) r = absurd r
  ran_reported (c ∷ cs) w [] r = absurd r
  ran_reported (c ∷ cs) w (s ∷ ss) r =
      ap (λ x. step_report s ∷ x) (ran_reported cs s.walk ss r.1)
      ∙ ap (λ (x : Answer (List ℕ × Loose) × steps.Walk). x ∷ walk_run (reported_shape word_shape) (reported (loose_at b) O) cs x.1) r.0.reports

  pub ran_end : (calls : List WalkCall) (w : Walk) (ss : List Step) → Ran b k parts symbols calls w ss → walk_of (walk_after w ss) ≡ walk_end word_shape O calls (walk_of w)
  unfolding Ran walk_after walk_end
  ran_end [] w [] r = refl
  ran_end [] w (s ∷ ss) r = absurd r
  ran_end (c ∷ cs) w [] r = absurd r
  ran_end (c ∷ cs) w (s ∷ ss) r =
      ran_end cs s.walk ss r.1
      ∙ ap (λ (x : Answer (List ℕ) × steps.Walk). walk_end word_shape O cs x.1) r.0.words

  module _ (ok : buffer_check b k parts symbols ≡ passed) (first : Walk) (fresh : walk_of first ≡ fresh_walk O) (calls : List WalkCall) (ss : List Step)
      (ran : Ran b k parts symbols calls first ss) where
    -- answers and states
    pub walk_rule : map step_words ss ≡ plain_walk_run word_shape (listing word_shape O) calls 0
    walk_rule = ran_is calls first ss ran ∙ ap (walk_run word_shape O calls) fresh ∙ (own_walk_rule b k parts symbols ok).walks calls

    -- with the report on each tree
    pub report_rule : map step_report ss ≡ plain_walk_run (reported_shape word_shape) (listing (reported_shape word_shape) (reported (loose_at b) O)) calls 0
    report_rule =
        ran_reported calls first ss ran ∙ ap (walk_run (reported_shape word_shape) (reported (loose_at b) O) calls) fresh
        ∙ (own_reported_rule b k parts symbols ok).walks calls

    -- after any calls, passing a subtree lands where reading it and its descendants singly does
    pub pass_rule : (s : Step) (singly : List Step) → (walk_after first ss).number < O.trees → sub word_shape (listing word_shape O) (walk_after first ss).number ≡ true
        → Stepped b k parts symbols skip (walk_after first ss) s
        → Ran b k parts symbols (replicate (1 + word_shape.count ((listing word_shape O).tree (walk_after first ss).number)) advance) (walk_after first ss) singly
        → walk_of s.walk ≡ walk_of (walk_after (walk_after first ss) singly)
    pass_rule s singly h e past r =
        let w : Walk = walk_after first ss in
        let q : walk_of w ≡ walk_end word_shape O calls (fresh_walk O) = ran_end calls first ss ran ∙ ap (walk_end word_shape O calls) fresh in
        ap (λ x. x.1) past.words
        ∙ (own_walk_rule b k parts symbols ok).passing calls (walk_of w) q h e
        ∙ sym (ran_end (replicate (1 + word_shape.count ((listing word_shape O).tree w.number)) advance) w singly r)

    -- the last span of the whole
    pub last_rule : (r : Result (Option ReportedSpan) Refusal) → LastFound b k parts symbols first r → last_words r ≡ one (end_span ((listing word_shape O).tree (k - 1)))
    last_rule r e = e.words ∙ ap (last_span b k parts symbols) fresh ∙ own_last_span b k parts symbols ok

    pub last_report_rule : (r : Result (Option ReportedSpan) Refusal) → LastFound b k parts symbols first r
        → last_of r ≡ one (end_span ((listing word_shape O).tree (k - 1)), end_loose ((listing word_shape O).tree (k - 1), loose_at b ((listing word_shape O).place (k - 1))))
    last_report_rule r e = e.exact ∙ ap (last_reported b k parts symbols) fresh ∙ own_last_reported b k parts symbols ok
