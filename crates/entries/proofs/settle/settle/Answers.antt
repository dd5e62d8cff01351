use borrow.Author.Rules.{rules}
use Rattle.entries.proofs.SettleReturns.{settle_cases}
use Rattle.entries.proofs.settle.settle.Goals as goal

pub put_in_order-requires : goal.put_in_order-requires
put_in_order-requires c = search (rules, settle_cases)

pub expand-requires : goal.expand-requires
expand-requires c = search (rules, settle_cases)

pub returns : goal.returns
returns c = search (rules, settle_cases)
