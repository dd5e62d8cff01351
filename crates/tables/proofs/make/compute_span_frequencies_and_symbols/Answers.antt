use Rattle.std.proofs.lemmas.Result.{err_from_is_err_and}
use mathlib.Core.Path.{refl}
use borrow.Author.Rules.{rules}
use Rattle.tables.proofs.MakeReturns.{report_cases, rows_refused}
use Rattle.tables.proofs.make.compute_span_frequencies_and_symbols.Goals as goal

pub list_rows-requires : goal.list_rows-requires
list_rows-requires c = search (rules, report_cases)

pub make_if_room-requires : goal.make_if_room-requires
make_if_room-requires c = search (rules, report_cases)

pub returns-in_err-list_rows : goal.returns-in_err-list_rows
returns-in_err-list_rows c =
    let p = err_from_is_err_and c.from_residual.result c.from_residual.ensures.1 in
    rw (p.1, p.2) (rows_refused _ _ _ _ _ _ _ c.in_err-list_rows.ensures refl)
