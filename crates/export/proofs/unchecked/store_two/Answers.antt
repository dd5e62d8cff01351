use borrow.Author.Rules.{rules}
use Rattle.export.proofs.CursorCases.{cursor_cases}
use Rattle.export.proofs.StoreCases.{report_cases}
use Rattle.export.proofs.unchecked.store_two.Goals as goal

pub returns : goal.returns
returns c = search (rules, cursor_cases, report_cases)
