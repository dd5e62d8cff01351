use borrow.Author.Rules.{rules}
use Rattle.export.proofs.CursorCases.{cursor_cases}
use Rattle.export.proofs.StoreCases.{store_cases}
use Rattle.export.proofs.cursors.tt_cursor.Goals as goal

pub returns-then-call-ge4 : goal.returns-then-call-ge4
returns-then-call-ge4 c = search (rules, cursor_cases, store_cases)
