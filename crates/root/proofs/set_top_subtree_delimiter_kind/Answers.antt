use borrow.Author.Rules.{rules}
use mathlib.Core.Path.{ap, ◌∙◌}
use Rattle.std.specs.Prelude.{Err}
use Rattle.std.proofs.lemmas.Result.{err_from_is_err_and}
use Rattle.root.proofs.RewriteReturns.{kind_cases, kind_two, kind_done, kind_unread}
use Rattle.root.proofs.set_top_subtree_delimiter_kind.Goals as goal

pub returns-in_err-check_buffer : goal.returns-in_err-check_buffer
returns-in_err-check_buffer c =
    let p = err_from_is_err_and c.from_residual.result c.from_residual.ensures.1 in
    kind_unread _ _ _ _ _ c.check_buffer.ensures _ c.in_err-check_buffer.was _ _ (p.1 ∙ ap Err p.2)

pub returns-then-kind-gt3 : goal.returns-then-kind-gt3
returns-then-kind-gt3 c = kind_two _ _ _ _ _ c.check_buffer.ensures _ c.in_ok-check_buffer.was _ _ c.if-kind-gt3.true c.refused.ensures

pub put_kind-requires : goal.put_kind-requires
put_kind-requires c = search (rules, kind_cases)

pub returns : goal.returns
returns c = kind_done _ _ _ _ _ c.check_buffer.ensures _ c.in_ok-check_buffer.was _ _ c.if-kind-gt3.false c.put_kind.ensures
