use borrow.Author.Rules.{rules}
use Rattle.replace.proofs.PreviewReturns.{leaf_cases}
use Rattle.replace.proofs.preview.preview.Goals as goal

pub returns : goal.returns
returns c = search (rules, leaf_cases)
