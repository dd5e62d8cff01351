-- What `build` and `build_skip_top_subtree` answer, and what work words and output hold then, for every builder and every run.
use Rattle.std.specs.Prelude.{ℕ, ◌≡◌, List, Result}
use Rattle.format.specs.Builder.{build, build_skip_top_subtree}
use Rattle.format.specs.Builder as format
use Rattle.tree.specs.Refusal.{report_answer}
use Rattle.builder.specs.declared.state.Builder.{Builder}
use Rattle.builder.specs.State.{seen}
use Rattle.tree.specs.declared.refusal.Refusal.{Refusal}

pub record Made (m : format.Built) (r : Result ℕ Refusal) (work' out' : List ℕ) : Type 0 where
  pub answer : r ≡ report_answer m.report
  pub works : work' ≡ m.work
  pub outs : out' ≡ m.out

module _ (b : Builder) (l parts symbols work out : List ℕ) where
  abbrev pub Built : Result ℕ Refusal → List ℕ → List ℕ → Type 0
  Built r work' out' = Made (build parts symbols work out l (seen b)) r work' out'

  abbrev pub BuiltSkipping : Result ℕ Refusal → List ℕ → List ℕ → Type 0
  BuiltSkipping r work' out' = Made (build_skip_top_subtree parts symbols work out l (seen b)) r work' out'
