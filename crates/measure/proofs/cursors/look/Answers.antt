use mathlib.Core.Path.{sym, ◌∙◌}
use Rattle.measure.proofs.CursorReturns.{look_refused}
use Rattle.measure.proofs.cursors.look.Goals as goal

pub returns-in-Err : goal.returns-in-Err
returns-in-Err c = look_refused _ _ _ _ _ _ _ _ _ (sym c.is_over.ensures ∙ c.if-is_over.false) _ c.token_tree.ensures _ c.in-Err.is _ c.refused_code.ensures
