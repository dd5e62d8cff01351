use mathlib.Core.Path.{refl}
use borrow.Author.Rules.{rules}
use Rattle.std.proofs.lemmas.Result.{err_from_is_err_and}
use Rattle.replace.proofs.PrepareReturns.{there_rows, there_held, there_counts}
use Rattle.replace.proofs.PreviewReturns.{preview_cases, none_previewed, all_previewed}
use Rattle.replace.proofs.preview.preview_words.Goals as goal

pub returns-in_err-made : goal.returns-in_err-made
returns-in_err-made c =
    let p = err_from_is_err_and c.from_residual.result c.from_residual.ensures.1 in
    rw (p.1, p.2) (none_previewed _ _ _ _ _ _ _ _ _ _ _ _ _ c.in_err-made.ensures _ refl)

pub slice_bounds-own_tables-end : goal.slice_bounds-own_tables-end
slice_bounds-own_tables-end c = search (rules, preview_cases)

pub own_tables-own-requires-clause-rows : goal.own_tables-own-requires-clause-rows
own_tables-own-requires-clause-rows c = there_rows _ _ _ _ _ _ _ _ _ _ _ _ _ c.in_ok-made.ensures _ refl _ c.place-end.ensures.0

pub own_tables-own-requires-clause-held : goal.own_tables-own-requires-clause-held
own_tables-own-requires-clause-held c = there_held _ _ _ _ _ _ _ _ _ _ _ _ _ c.in_ok-made.ensures _ refl _ c.place-end.ensures.0

pub fresh_sizes-requires : goal.fresh_sizes-requires
fresh_sizes-requires c = there_counts _ _ _ _ _ _ _ _ _ _ _ _ _ c.in_ok-made.ensures _ refl _ c.place-end.ensures.0 _ c.own_tables-own.ensures c.prepare.auto.counts

pub returns : goal.returns
returns c = all_previewed _ _ _ _ _ _ _ _ _ _ _ _ _ c.in_ok-made.ensures _ refl _ c.place-end.ensures.0 _ c.own_tables-own.ensures _ _ c.fresh_sizes.ensures
