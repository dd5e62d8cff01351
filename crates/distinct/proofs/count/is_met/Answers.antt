use Rattle.distinct.proofs.CountReturns.{fresh_cases}
use borrow.Author.Rules.{rules}
use Rattle.distinct.proofs.count.is_met.Goals as goal

pub loop-u-init : goal.loop-u-init
loop-u-init c = search (rules, fresh_cases)

pub is_same-requires : goal.is_same-requires
is_same-requires c = search (rules, fresh_cases)

pub returns-then-is_same : goal.returns-then-is_same
returns-then-is_same c = search (rules, fresh_cases)

pub loop-u-preserved : goal.loop-u-preserved
loop-u-preserved c = search (rules, fresh_cases)

pub returns : goal.returns
returns c = search (rules, fresh_cases)
