use borrow.Author.Rules.{rules}
use Rattle.passes.proofs.FiveReturns.{run_five_cases}
use Rattle.passes.proofs.five.run_five.Goals as goal

pub returns-then-found-stop : goal.returns-then-found-stop
returns-then-found-stop c = search (rules, run_five_cases)

pub returns : goal.returns
returns c = search (rules, run_five_cases)
