use borrow.Author.Rules.{rules}
use Rattle.builder.proofs.TakenReturns.{close_step_cases}
use Rattle.builder.proofs.state.Builder.close.Goals as goal

pub returns-in-Err : goal.returns-in-Err
returns-in-Err c = search (rules, close_step_cases)
