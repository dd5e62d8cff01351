use borrow.Author.Rules.{rules}
use Rattle.export.proofs.StoreCases.{store_cases}
use Rattle.export.proofs.trees.store_counted.Goals as goal

pub returns : goal.returns
returns c = search (rules, store_cases)
