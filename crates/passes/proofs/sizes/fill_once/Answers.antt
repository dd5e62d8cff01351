use borrow.Author.Rules.{rules}
use Rattle.passes.proofs.SizesReturns.{fill_cases}
use Rattle.passes.proofs.sizes.fill_once.Goals as goal

pub size_run-requires-clause-sized : goal.size_run-requires-clause-sized
size_run-requires-clause-sized c = search (rules, fill_cases)
