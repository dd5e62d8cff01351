use borrow.Author.Rules.{rules}
use Rattle.entries.proofs.SettleReturns.{order_cases}
use Rattle.entries.proofs.settle.put_in_order.Goals as goal

pub limit_of-requires : goal.limit_of-requires
limit_of-requires c = search (rules, order_cases)

pub returns-then-p-limit_of : goal.returns-then-p-limit_of
returns-then-p-limit_of c = search (rules, order_cases)

pub sort-requires : goal.sort-requires
sort-requires c = search (rules, order_cases)

pub returns : goal.returns
returns c = search (rules, order_cases)
