-- What a step answers, and what the builder and the run are then, for every builder and every run.
use Rattle.std.specs.Prelude.{ℕ, ◌+◌, ◌-◌, ◌≡◌, List, set, replicate, leb, if◌then◌else◌}
use Rattle.format.specs.Verdict.{contents}
use Rattle.format.specs.Builder.{Step, push, open_subtree, close_subtree, restore, new_verdict, new, builder_step}
use Rattle.tree.specs.Refusal.{verdict_answer}
use Rattle.tree.specs.Types.{words_of}
use Rattle.tree.specs.declared.types.Span.{Span}
use Rattle.builder.specs.declared.state.Builder.{Builder}
use Rattle.builder.specs.declared.state.Stepped.{Stepped}
use Rattle.builder.specs.State.{seen}

-- n trees, none open
abbrev pub none_open : ℕ → Builder
none_open n = record { count = n; depth = 0; opened = replicate 256 0 }

-- `new`: where it is refused, a builder of no trees, whose every step is 10
pub record Begun (kind : ℕ) (o c : Span) (l : List ℕ) (r : Stepped) (l' : List ℕ) : Type 0 where
  pub answer : r.verdict ≡ verdict_answer (new_verdict kind (words_of o) (words_of c) l)
  pub builder : r.builder ≡ contents (new_verdict kind (words_of o) (words_of c) l) (none_open 0) (none_open 1)
  pub words : l' ≡ (new kind (words_of o) (words_of c) l).words

-- a step that is not refused: an opening writes one entry of the array, all others stay
unfoldable pub after : Step → Builder → Builder
after (push w) b = record { count = b.count + 1; depth = b.depth; opened = b.opened }
after (open_subtree kind s) b = record { count = b.count + 1; depth = b.depth + 1; opened = set b.opened b.depth b.count }
after (close_subtree s) b = record { count = b.count; depth = b.depth - 1; opened = b.opened }
after (restore p) b = if leb b.count p.trees then b else record { count = p.trees; depth = p.opened; opened = b.opened }

-- "A refused step gives back the old state" and changes nothing lent
pub record Taken (s : Step) (b : Builder) (l : List ℕ) (r : Stepped) (l' : List ℕ) : Type 0 where
  pub answer : r.verdict ≡ verdict_answer (builder_step s (seen b) l).verdict
  pub builder : r.builder ≡ contents (builder_step s (seen b) l).verdict b (after s b)
  pub words : l' ≡ (builder_step s (seen b) l).words
