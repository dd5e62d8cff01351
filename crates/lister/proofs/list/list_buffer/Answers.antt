use borrow.Author.Rules.{rules}
use Rattle.lister.proofs.ListReturns.{buffer_cases}
use Rattle.lister.proofs.list.list_buffer.Goals as goal

pub loose_below-loose-requires-clause-passes : goal.loose_below-loose-requires-clause-passes
loose_below-loose-requires-clause-passes c = search (rules, buffer_cases)

pub put_lines-requires-clause-passes : goal.put_lines-requires-clause-passes
put_lines-requires-clause-passes c = search (rules, buffer_cases)

pub returns-in-Err-clause-text : goal.returns-in-Err-clause-text
returns-in-Err-clause-text c = search (rules, buffer_cases)

pub returns-in-Err-clause-fits : goal.returns-in-Err-clause-fits
returns-in-Err-clause-fits c = search (rules, buffer_cases)

pub returns-in-Ok-clause-text : goal.returns-in-Ok-clause-text
returns-in-Ok-clause-text c = search (rules, buffer_cases)

pub returns-in-Ok-clause-fits : goal.returns-in-Ok-clause-fits
returns-in-Ok-clause-fits c = search (rules, buffer_cases)
