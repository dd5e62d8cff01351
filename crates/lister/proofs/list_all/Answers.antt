use borrow.Author.Rules.{rules}
use Rattle.lister.proofs.ListReturns.{all_cases}
use Rattle.lister.proofs.list_all.Goals as goal

pub list_bundle-requires : goal.list_bundle-requires
list_bundle-requires c = search (rules, all_cases)

pub returns : goal.returns
returns c = search (rules, all_cases)
