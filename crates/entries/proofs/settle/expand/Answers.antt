use borrow.Author.Rules.{rules}
use Rattle.entries.proofs.SettleReturns.{expand_cases}
use Rattle.entries.proofs.settle.expand.Goals as goal

pub loop-k-init : goal.loop-k-init
loop-k-init c = search (rules, expand_cases)

pub put-requires : goal.put-requires
put-requires c = search (rules, expand_cases)

pub loop-k-preserved : goal.loop-k-preserved
loop-k-preserved c = search (rules, expand_cases)

pub returns : goal.returns
returns c = search (rules, expand_cases)
