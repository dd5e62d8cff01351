use borrow.Author.Rules.{rules}
use Rattle.measure_walk.proofs.FreshReturns.{fresh_cases}
use Rattle.measure_walk.proofs.tt_walk_all.Goals as goal

pub fresh-requires : goal.fresh-requires
fresh-requires c = search (rules, fresh_cases)

pub walk_sum-requires : goal.walk_sum-requires
walk_sum-requires c = search (rules, fresh_cases)

pub returns : goal.returns
returns c = search (rules, fresh_cases)
