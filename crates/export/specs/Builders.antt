-- The builder's steps: the reply in one number, and what is lent then.
use Rattle.std.specs.Prelude.{ℕ, Bool, true, false, ◌≡◌, List, [], ◌∷◌, Result, Ok, Err}
use Rattle.format.specs.Verdict.{Verdict, contents}
use Rattle.format.specs.Builder.{Step, builder_step, new_verdict, new, point_verdict, restore_point, build, build_skip_top_subtree}
use Rattle.format.specs.Builder as format
use Rattle.tree.specs.Types.{words_of}
use Rattle.tree.specs.Refusal.{verdict_answer, report_answer}
use Rattle.tree.specs.declared.types.Span.{Span}
use Rattle.builder.specs.State.{seen}
use Rattle.builder.specs.Restoring.{point_answer}
use Rattle.builder.specs.Taken.{none_open, after}
use Rattle.builder.specs.declared.state.Builder.{Builder}
use Rattle.builder.specs.declared.state.Stepped.{Stepped}
use Rattle.builder.specs.declared.state.Point.{Point}
use Rattle.tree.specs.declared.refusal.Refusal.{Refusal}
use Rattle.export.specs.Replies.{refused_code, verdict_code, report_code}

abbrev pub lent : ℕ → ℕ → List ℕ → Builder
lent n d a = record { count = n; depth = d; opened = a }

abbrev pub state_list : Builder → List ℕ
state_list b = b.count ∷ b.depth ∷ []

pub record StepStored (s : Stepped) (r : ℕ) (next' opened' : List ℕ) : Type 0 where
  pub reply : r ≡ verdict_code s.verdict
  pub state : next' ≡ state_list s.builder
  pub numbers : opened' ≡ s.builder.opened

-- the verdict v, and the builder b behind the step
pub record Handed (v : Verdict) (b : Builder) (r : ℕ) (next' opened' : List ℕ) : Type 0 where
  pub reply : r ≡ verdict_code (verdict_answer v)
  pub state : next' ≡ state_list b
  pub numbers : opened' ≡ b.opened

module _ (kind : ℕ) (o c : Span) (l : List ℕ) where
  pub record NewReplied (r : ℕ) (next' opened' l' : List ℕ) : Type 0 where
    pub handed : Handed (new_verdict kind (words_of o) (words_of c) l) (contents (new_verdict kind (words_of o) (words_of c) l) (none_open 0) (none_open 1)) r next' opened'
    pub words : l' ≡ (new kind (words_of o) (words_of c) l).words

module _ (s : Step) (b : Builder) (l : List ℕ) where
  pub record StepReplied (r : ℕ) (next' opened' l' : List ℕ) : Type 0 where
    pub handed : Handed (builder_step s (seen b) l).verdict (contents (builder_step s (seen b) l).verdict b (after s b)) r next' opened'
    pub words : l' ≡ (builder_step s (seen b) l).words

-- ---- points

abbrev pub point_code : Result Point Refusal → ℕ
point_code (Ok p) = 0
point_code (Err r) = refused_code r

abbrev pub point_left : List ℕ → Result Point Refusal → List ℕ
point_left w (Ok p) = p.trees ∷ p.opened ∷ []
point_left w (Err r) = w

pub record PointReplied (b : Builder) (l point : List ℕ) (r : ℕ) (point' : List ℕ) : Type 0 where
  pub reply : r ≡ point_code (point_answer (point_verdict l (seen b)) (restore_point l (seen b)))
  pub contents : point' ≡ point_left point (point_answer (point_verdict l (seen b)) (restore_point l (seen b)))

-- ---- building

module _ (b : Builder) (skips : Bool) (l parts symbols work out : List ℕ) where
  abbrev pub built_by : Bool → format.Built
  built_by true = build_skip_top_subtree parts symbols work out l (seen b)
  built_by false = build parts symbols work out l (seen b)

  pub record BuildReplied (r : ℕ) (work' out' : List ℕ) : Type 0 where
    pub reply : r ≡ report_code (report_answer (built_by skips).report)
    pub words : work' ≡ (built_by skips).work
    pub bytes : out' ≡ (built_by skips).out
