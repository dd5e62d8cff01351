use borrow.Author.Rules.{rules}
use Rattle.entries.proofs.LargeReturns.{large_cases}
use Rattle.entries.proofs.table.slow.Goals as goal

pub scan-p-requires : goal.scan-p-requires
scan-p-requires c = search (rules, large_cases)

pub settle-requires : goal.settle-requires
settle-requires c = search (rules, large_cases)

pub returns : goal.returns
returns c = search (rules, large_cases)
