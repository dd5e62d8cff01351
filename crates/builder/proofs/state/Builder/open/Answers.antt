use borrow.Author.Rules.{rules}
use Rattle.builder.proofs.TakenReturns.{open_cases}
use Rattle.builder.proofs.state.Builder.open.Goals as goal

pub returns-in-Err : goal.returns-in-Err
returns-in-Err c = search (rules, open_cases)

pub returns : goal.returns
returns c = search (rules, open_cases)
