use borrow.Author.Rules.{rules}
use Rattle.passes.proofs.FiveReturns.{absent_cases}
use Rattle.passes.proofs.five.first_absent.Goals as goal

pub returns-then-not-is_present : goal.returns-then-not-is_present
returns-then-not-is_present c = search (rules, absent_cases)

pub loop-n-preserved : goal.loop-n-preserved
loop-n-preserved c = search (rules, absent_cases)

pub returns : goal.returns
returns c = search (rules, absent_cases)
