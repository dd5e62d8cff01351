use borrow.Author.Rules.{rules}
use Rattle.export.proofs.StoreCases.{report_cases}
use Rattle.export.proofs.trees.store_tree.Goals as goal

pub returns : goal.returns
returns c = search (rules, report_cases)
