use borrow.Author.Rules.{rules}
use Rattle.passes.proofs.SizesReturns.{fill_cases}
use Rattle.passes.proofs.sizes.fill_work.Goals as goal

pub size_all-requires-clause-sized : goal.size_all-requires-clause-sized
size_all-requires-clause-sized c = search (rules, fill_cases)
