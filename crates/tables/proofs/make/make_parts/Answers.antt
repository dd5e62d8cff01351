use borrow.Author.Rules.{rules}
use Rattle.tables.proofs.MakeReturns.{parts_cases}
use Rattle.tables.proofs.make.make_parts.Goals as goal

pub make_table-p-requires : goal.make_table-p-requires
make_table-p-requires c = search (rules, parts_cases)

pub overflow_mul-p : goal.overflow_mul-p
overflow_mul-p c = search (rules, parts_cases)

pub put_root-requires : goal.put_root-requires
put_root-requires c = search (rules, parts_cases)

pub overflow_add-result : goal.overflow_add-result
overflow_add-result c = search (rules, parts_cases)

pub returns : goal.returns
returns c = search (rules, parts_cases)
