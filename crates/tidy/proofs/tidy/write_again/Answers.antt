use borrow.Author.Rules.{rules}
use Rattle.tidy.proofs.TidyReturns.{again_cases}
use Rattle.tidy.proofs.tidy.write_again.Goals as goal

pub write_own-requires : goal.write_own-requires
write_own-requires c = search (rules, again_cases)

pub returns : goal.returns
returns c = search (rules, again_cases)
