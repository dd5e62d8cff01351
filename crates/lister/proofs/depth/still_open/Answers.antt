use borrow.Author.Rules.{rules}
use Rattle.lister.proofs.DepthReturns.{close_cases}
use Rattle.lister.proofs.depth.still_open.Goals as goal

pub loop-i-init : goal.loop-i-init
loop-i-init c = search (rules, close_cases)

pub returns-then-n-ends : goal.returns-then-n-ends
returns-then-n-ends c = search (rules, close_cases)

pub loop-i-preserved : goal.loop-i-preserved
loop-i-preserved c = search (rules, close_cases)

pub returns : goal.returns
returns c = search (rules, close_cases)
