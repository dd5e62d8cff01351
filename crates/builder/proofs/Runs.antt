-- Runs of calls: what `new` and the steps hand back one after the other is what the definitions' run hands back.
use Prim.Native.Nat.{ℕ, ◌*◌}
use mathlib.Core.Bool.{true, false}
use mathlib.Core.Path.{◌≡◌, refl, sym, ap, ◌∙◌, subst}
use mathlib.Core.List.{List, [], ◌∷◌}
use lib.ListN.{length, take}
use Rattle.std.specs.Prelude.{Result, Ok}
use Rattle.format.specs.Verdict.{Verdict, passed, refused, contents}
use Rattle.format.specs.Width.{tree_size}
use Rattle.format.specs.Builder.{disagrees, no_builder, new_builder, new_verdict, new, point_verdict, restore_point, Step, restore, builder_step, builder_run, builder_from}
use Rattle.format.specs.Builder as format
use Rattle.builder.specs.Frames.{accepted, stays_inside}
use Rattle.builder.proofs.BuilderBuild.{always_agrees}
use Rattle.builder.proofs.BuilderRestore.{Restored, restore_after}
use Rattle.tree.specs.Refusal.{verdict_answer}
use Rattle.tree.specs.Types.{words_of}
use Rattle.tree.proofs.Answers.{answer_passed}
use Rattle.tree.specs.declared.types.Span.{Span}
use Rattle.builder.specs.declared.state.Builder.{Builder}
use Rattle.builder.specs.declared.state.Stepped.{Stepped}
use Rattle.builder.specs.declared.state.Point.{Point}
use Rattle.tree.specs.declared.refusal.Refusal.{Refusal}
use Rattle.builder.specs.State.{numbers, seen}
use Rattle.builder.specs.Restoring.{point_answer}
use Rattle.builder.specs.Taken.{none_open, Begun, Taken}
use Rattle.builder.proofs.Numbers.{numbers_length}
use Rattle.builder.proofs.Seen.{Sized, step_sees}

-- the calls of a list of steps, each on what the one before handed back, from builder b and run l to b' and l'
unfoldable pub Ran : List Step → Builder → List ℕ → Builder → List ℕ → Type 0
Ran [] b l b' l' = (b ≡ b') × (l ≡ l')
Ran (s ∷ ss) b l b' l' = (r : Stepped) × (l₁ : List ℕ) × Taken s b l r l₁ × Ran ss r.builder l₁ b' l'

pub record Same (b' : Builder) (l' : List ℕ) (d : format.Stepped) : Type 0 where
  pub builder : seen b' ≡ d.builder
  pub words : l' ≡ d.words
  pub sized : Sized b'

-- THE RUN, from any builder
pub run_same : (ss : List Step) (b : Builder) (l : List ℕ) (b' : Builder) (l' : List ℕ) → Sized b → Ran ss b l b' l' → Same b' l' (builder_run ss (seen b) l)
unfolding Ran builder_run
run_same [] b l b' l' z e = record { builder = sym (ap seen e.0); words = sym e.1; sized = subst Sized e.0 z }
run_same (s ∷ ss) b l b' l' z e =
    let r = e.0 in
    let l₁ = e.1 in
    let t = e.2 in
    let x = step_sees s b l r l₁ t z in
    let y = run_same ss r.builder l₁ b' l' x.1 e.3 in
    record {
      builder = y.builder ∙ (λ i. (builder_run ss (x.0 i) (t.words i)).builder);
      words = y.words ∙ (λ i. (builder_run ss (x.0 i) (t.words i)).words);
      sized = y.sized;
    }

-- ---- from `new`

sized_none : (n : ℕ) → Sized (none_open n)
sized_none n = record { size = refl }

none_seen : (n : ℕ) → seen (none_open n) ≡ record { count = n; opened = [] }
unfolding numbers
none_seen n = refl

passed_answer : verdict_answer passed ≡ Ok tt
unfolding verdict_answer
passed_answer = refl

-- `new`, refused or not
seen_either : (v : Verdict) → seen (contents v (none_open 0) (none_open 1)) ≡ contents v no_builder new_builder
seen_either passed = none_seen 1
seen_either (refused r n) = none_seen 0

sized_either : (v : Verdict) → Sized (contents v (none_open 0) (none_open 1))
sized_either passed = sized_none 1
sized_either (refused r n) = sized_none 0

-- steps after which restoring the point of this moment gives this moment back
abbrev Returns : List Step → format.Builder → List ℕ → Type 0
Returns ts u w = stays_inside 0 (accepted ts u w) ≡ true → Restored u w (builder_run ts u w).builder (builder_run ts u w).words

pub record Back (b : Builder) (m m₂ : List ℕ) (r : Stepped) (m₃ : List ℕ) : Type 0 where
  pub passes : r.verdict ≡ Ok tt
  pub builder : seen r.builder ≡ seen b
  pub depth : r.builder.depth ≡ b.depth
  pub words : m₃ ≡ m₂
  pub before : take (tree_size * b.count) m₂ ≡ take (tree_size * b.count) m

module _ (kind : ℕ) (o c : Span) (l : List ℕ) (r₀ : Stepped) (l₀ : List ℕ) (begun : Begun kind o c l r₀ l₀) where
  begins : Same r₀.builder l₀ (new kind (words_of o) (words_of c) l)
  unfolding new
  begins =
      let q = begun.builder in
      record {
        builder = ap seen q ∙ seen_either (new_verdict kind (words_of o) (words_of c) l);
        words = begun.words;
        sized = subst Sized (sym q) (sized_either (new_verdict kind (words_of o) (words_of c) l));
      }

  -- THE RUN FROM `new`
  pub from_new : (ss : List Step) (b : Builder) (m : List ℕ) → Ran ss r₀.builder l₀ b m → Same b m (builder_from kind (words_of o) (words_of c) l ss)
  unfolding builder_from
  from_new ss b m ran =
      let x = begins in
      let y = run_same ss r₀.builder l₀ b m x.sized ran in
      record {
        builder = y.builder ∙ (λ i. (builder_run ss (x.builder i) (x.words i)).builder);
        words = y.words ∙ (λ i. (builder_run ss (x.builder i) (x.words i)).words);
        sized = y.sized;
      }

  pub new_passed : r₀.verdict ≡ Ok tt → (new kind (words_of o) (words_of c) l).verdict ≡ passed
  unfolding new
  new_passed ok = answer_passed (new_verdict kind (words_of o) (words_of c) l) (sym begun.answer ∙ ok)

  -- ---- restoring, where `new` was not refused

  module _ (ok : r₀.verdict ≡ Ok tt) (ss : List Step) (b : Builder) (m : List ℕ) (ran : Ran ss r₀.builder l₀ b m) where
    fresh : (new kind (words_of o) (words_of c) l).verdict ≡ passed
    fresh = new_passed ok

    -- the builder always agrees with the run
    pub run_agrees : disagrees m (seen b) ≡ false
    run_agrees =
        let x = from_new ss b m ran in
        (λ i. disagrees (x.words i) (x.builder i)) ∙ always_agrees kind (words_of o) (words_of c) l ss fresh

    -- so `restore_point` gives the present moment
    pub run_point : (p : Result Point Refusal) → p ≡ point_answer (point_verdict m (seen b)) (restore_point m (seen b)) → p ≡ Ok (record { trees = b.count; opened = b.depth })
    unfolding point_answer
    run_point p e =
        let a = run_agrees in
        let d = numbers_length b.opened b.depth in
        e ∙ simp (a, d)

    -- the definitions' theorem at this moment
    moment : (ts : List Step) → stays_inside 0 (accepted ts (seen b) m) ≡ true
        → Restored (seen b) m (builder_run ts (seen b) m).builder (builder_run ts (seen b) m).words
    moment ts inside =
        let x = from_new ss b m ran in
        let g : Returns ts (builder_from kind (words_of o) (words_of c) l ss).builder (builder_from kind (words_of o) (words_of c) l ss).words =
        restore_after kind (words_of o) (words_of c) l ss ts fresh in
        subst (λ (w : List ℕ). Returns ts (seen b) w) (sym x.words) (subst (λ (u : format.Builder). Returns ts u (builder_from kind (words_of o) (words_of c) l ss).words) (sym x.builder) g) inside

    -- RESTORE: a point, then steps of which those not refused are pushes, opens and closes of what was opened since; restoring gives the builder of that moment
    -- back, with the trees of that moment in front, and writes nothing
    pub run_restored : (ts : List Step) (b₂ : Builder) (m₂ : List ℕ) → Ran ts b m b₂ m₂ → stays_inside 0 (accepted ts (seen b) m) ≡ true
        → (r : Stepped) (m₃ : List ℕ) → Taken (restore (record { trees = b.count; opened = b.depth })) b₂ m₂ r m₃ → Back b m m₂ r m₃
    run_restored ts b₂ m₂ later inside r m₃ t =
        let x = from_new ss b m ran in
        let y = run_same ts b m b₂ m₂ x.sized later in
        let R : Restored (seen b) m (seen b₂) m₂ =
        subst (λ (z : List ℕ). Restored (seen b) m (seen b₂) z) (sym y.words)
        (subst (λ (z : format.Builder). Restored (seen b) m z (builder_run ts (seen b) m).words) (sym y.builder) (moment ts inside)) in
        let a = run_agrees in
        let d = numbers_length b.opened b.depth in
        let p : restore_point m (seen b) ≡ record { trees = b.count; opened = b.depth } = simp (a, d) in
        let u = step_sees (restore (record { trees = b.count; opened = b.depth })) b₂ m₂ r m₃ t y.sized in
        let e : seen r.builder ≡ seen b = u.0 ∙ ap (λ (q : format.Point). (builder_step (restore q) (seen b₂) m₂).builder) (sym p) ∙ R.builder in
        record {
          passes = t.answer ∙ ap (λ (q : format.Point). verdict_answer (builder_step (restore q) (seen b₂) m₂).verdict) (sym p) ∙ ap verdict_answer R.passes ∙ passed_answer;
          builder = e;
          depth = sym (numbers_length r.builder.opened r.builder.depth) ∙ ap (λ (z : format.Builder). length z.opened) e ∙ d;
          words = t.words ∙ ap (λ (q : format.Point). (builder_step (restore q) (seen b₂) m₂).words) (sym p) ∙ R.words;
          before = subst (λ (q : format.Point). take (tree_size * q.trees) m₂ ≡ take (tree_size * q.trees) m) p R.before;
        }
