use borrow.Author.Rules.{rules}
use Rattle.export.proofs.StoreCases.{store_cases}
use Rattle.export.proofs.unchecked.store_state.Goals as goal

pub returns : goal.returns
returns c = search (rules, store_cases)
