use mathlib.Core.Path.{◌≡◌, ap, ◌∙◌}
use Rattle.std.specs.Prelude.{Ok}
use Rattle.cursor.specs.declared.plan.Reply.TheVariants as kinds
use borrow.Author.Rules.{rules}
use Rattle.export.proofs.CursorCases.{answer_none, answer_done, answer_tree, cursor_cases}
use Rattle.export.proofs.StoreCases.{store_cases}
use Rattle.export.proofs.unchecked.store_answer.Goals as goal

pub returns-in-Err : goal.returns-in-Err
returns-in-Err c = search (rules, cursor_cases, store_cases)

pub returns-in-Ok-None : goal.returns-in-Ok-None
returns-in-Ok-None c =
    let e : c.args.answer ≡ Ok c.in-Ok-None.field-0 = c.in-Ok-None.is in
    let d : c.in-Ok-None.field-0 ≡ kinds.None = rw e at c.in-Ok-None.field-0-is in
    answer_none _ _ _ _ _ c.store_state.ensures (e ∙ ap Ok d)

pub returns-in-Ok-Done : goal.returns-in-Ok-Done
returns-in-Ok-Done c =
    let e : c.args.answer ≡ Ok c.in-Ok-Done.field-0 = c.in-Ok-Done.is in
    let d : c.in-Ok-Done.field-0 ≡ kinds.Done = rw e at c.in-Ok-Done.field-0-is in
    answer_done _ _ _ _ _ c.store_state-in-Ok-Done.ensures (e ∙ ap Ok d)

pub returns-in-Ok-Tree : goal.returns-in-Ok-Tree
returns-in-Ok-Tree c =
    let e : c.args.answer ≡ Ok c.in-Ok-Tree.field-0 = c.in-Ok-Tree.is in
    let d : c.in-Ok-Tree.field-0 ≡ kinds.Tree c.in-Ok-Tree.read = rw e at c.in-Ok-Tree.field-0-is in
    answer_tree _ _ _ _ _ c.store_state-in-Ok-Tree.ensures _ _ _ (e ∙ ap Ok d) c.tree_words.ensures c.store_reported.ensures
