use borrow.Author.Rules.{rules}
use Rattle.builder.proofs.TakenReturns.{push_cases}
use Rattle.builder.proofs.state.Builder.push_words.Goals as goal

pub returns-in-Err : goal.returns-in-Err
returns-in-Err c = search (rules, push_cases)
