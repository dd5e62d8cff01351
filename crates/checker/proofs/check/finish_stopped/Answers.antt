use mathlib.Core.Path.{ap, ◌∙◌}
use borrow.Author.Rules.{rules}
use Rattle.std.specs.Prelude.{Err}
use Rattle.std.proofs.lemmas.Result.{err_from_is_err_and}
use Rattle.format.specs.Buffer.{raw_shape}
use Rattle.checker.specs.Glance.{reader_of}
use Rattle.checker.proofs.CheckReturns.{stop_cases, stop_later, stop_left, stop_here}
use Rattle.checker.proofs.check.finish_stopped.Goals as goal

pub read_on-requires-clause-n_le_trees : goal.read_on-requires-clause-n_le_trees
read_on-requires-clause-n_le_trees c = search (rules, stop_cases)

pub read_on-requires-clause-at_place : goal.read_on-requires-clause-at_place
read_on-requires-clause-at_place c = search (rules, stop_cases)

pub returns-in-Unread : goal.returns-in-Unread
returns-in-Unread c = search (rules, stop_cases)

pub returns-in_err-place-in-Unnested : goal.returns-in_err-place-in-Unnested
returns-in_err-place-in-Unnested c =
    let p = err_from_is_err_and c.from_residual.result c.from_residual.ensures.1 in
    stop_later raw_shape (reader_of c.args.b.now c.args.sizes) _ c.requires _ _ c.in-Unnested.is _ c.read_on.ensures _ c.in_err-place-in-Unnested.was _ (p.1 ∙ ap Err p.2)

pub returns-then-place-b : goal.returns-then-place-b
returns-then-place-b c =
    stop_left raw_shape (reader_of c.args.b.now c.args.sizes) _ c.requires _ _ c.in-Unnested.is _ c.read_on.ensures _ c.in_ok-place-in-Unnested.was _ _ c.refused.ensures (search rules) (search rules)

pub returns-else-place-b : goal.returns-else-place-b
returns-else-place-b c =
    stop_here raw_shape (reader_of c.args.b.now c.args.sizes) _ c.requires _ _ c.in-Unnested.is _ c.read_on.ensures _ c.in_ok-place-in-Unnested.was (search rules)
