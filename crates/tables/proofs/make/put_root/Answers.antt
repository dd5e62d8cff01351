use borrow.Author.Rules.{rules}
use Rattle.tables.proofs.MakeReturns.{root_cases}
use Rattle.tables.proofs.make.put_root.Goals as goal

pub put_part-requires : goal.put_part-requires
put_part-requires c = search (rules, root_cases)

pub overflow_add-at : goal.overflow_add-at
overflow_add-at c = search (rules, root_cases)

pub put_part-requires-2 : goal.put_part-requires-2
put_part-requires-2 c = search (rules, root_cases)

pub returns : goal.returns
returns c = search (rules, root_cases)
