use borrow.Author.Rules.{rules}
use Rattle.builder.proofs.RestoreReturns.{restore_cases}
use Rattle.builder.proofs.state.Builder.restore.Goals as goal

pub returns-in-Err : goal.returns-in-Err
returns-in-Err c = search (rules, restore_cases)
