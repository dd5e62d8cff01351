use borrow.Author.Rules.{rules}
use Rattle.export.proofs.CursorCases.{cursor_cases}
use Rattle.export.proofs.StoreCases.{store_cases}
use Rattle.export.proofs.cursors.lent_call.Goals as goal

pub returns-in_default : goal.returns-in_default
returns-in_default c = search (rules, cursor_cases, store_cases)
