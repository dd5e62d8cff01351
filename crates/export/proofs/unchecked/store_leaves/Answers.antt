use mathlib.Core.Path.{◌≡◌, ap, ◌∙◌}
use Rattle.std.specs.Prelude.{Ok, Some, None}
use borrow.Author.Rules.{rules}
use Rattle.export.proofs.CursorCases.{leaves_none, leaves_found, cursor_cases}
use Rattle.export.proofs.StoreCases.{store_cases}
use Rattle.export.proofs.unchecked.store_leaves.Goals as goal

pub returns-in-Err : goal.returns-in-Err
returns-in-Err c = search (rules, cursor_cases, store_cases)

pub returns-in-Ok-None : goal.returns-in-Ok-None
returns-in-Ok-None c =
    let e : c.args.two ≡ Ok c.in-Ok-None.field-0 = c.in-Ok-None.is in
    let d : c.in-Ok-None.field-0 ≡ None = rw e at c.in-Ok-None.field-0-is in
    leaves_none _ _ _ _ _ c.store_state.ensures (e ∙ ap Ok d)

pub returns-in-Ok-Some : goal.returns-in-Ok-Some
returns-in-Ok-Some c =
    let e : c.args.two ≡ Ok c.in-Ok-Some.field-0 = c.in-Ok-Some.is in
    let d : c.in-Ok-Some.field-0 ≡ Some c.in-Ok-Some.leaves = rw e at c.in-Ok-Some.field-0-is in
    leaves_found _ _ _ _ _ _ _ _ (e ∙ ap Ok d) c.store_both.ensures
