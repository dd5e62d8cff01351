use mathlib.Core.Path.{ap, ◌∙◌}
use Rattle.std.specs.Prelude.{Ok}
use Rattle.walk.proofs.LastReturns.{go_last}
use Rattle.walk.proofs.last_span.go_on.Goals as goal

pub into-requires : goal.into-requires
into-requires c = go_last _ _ _ _ c.walk_in-step.result c.walk_in-step.ensures _ (c.in_ok-tree.was ∙ ap Ok c.in-Some.is) c.if-then-gt0.false
