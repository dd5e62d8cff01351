use borrow.Author.Rules.{rules}
use mathlib.Core.Path.{ap, ◌∙◌}
use Rattle.std.specs.Prelude.{Err}
use Rattle.std.proofs.lemmas.Result.{err_from_is_err_and}
use Rattle.root.proofs.RewriteReturns.{set_cases, set_refused}
use Rattle.root.proofs.set_top_subtree_delimiter_span.Goals as goal

pub returns-in_err-spans_verdict : goal.returns-in_err-spans_verdict
returns-in_err-spans_verdict c =
    let p = err_from_is_err_and c.from_residual.result c.from_residual.ensures.1 in
    set_refused _ _ _ _ _ _ _ c.spans_verdict.ensures _ c.in_err-spans_verdict.was _ (p.1 ∙ ap Err p.2)

pub overflow_sub-parts : goal.overflow_sub-parts
overflow_sub-parts c = search (rules, set_cases)

pub overflow_cast-parts : goal.overflow_cast-parts
overflow_cast-parts c = search (rules, set_cases)

pub put_spans-requires : goal.put_spans-requires
put_spans-requires c = search (rules, set_cases)

pub overflow_sub-parts-2 : goal.overflow_sub-parts-2
overflow_sub-parts-2 c = search (rules, set_cases)

pub put_pair-requires : goal.put_pair-requires
put_pair-requires c = search (rules, set_cases)

pub returns : goal.returns
returns c = search (rules, set_cases)
