use borrow.Author.Rules.{rules}
use Rattle.replace.proofs.PrepareReturns.{new_cases}
use Rattle.replace.proofs.prepare.make_new.Goals as goal

pub put_list-requires : goal.put_list-requires
put_list-requires c = search (rules, new_cases)

pub place-end-requires : goal.place-end-requires
place-end-requires c = search (rules, new_cases)

pub overflow_mul-end : goal.overflow_mul-end
overflow_mul-end c = search (rules, new_cases)

pub slice_bounds-make_tables-count : goal.slice_bounds-make_tables-count
slice_bounds-make_tables-count c = search (rules, new_cases)

pub make_tables-requires : goal.make_tables-requires
make_tables-requires c = search (rules, new_cases)

pub returns : goal.returns
returns c = search (rules, new_cases)

pub slice_bounds-make_tables-start : goal.slice_bounds-make_tables-start
slice_bounds-make_tables-start c = search (rules, new_cases)

pub slice_bounds-make_tables-end : goal.slice_bounds-make_tables-end
slice_bounds-make_tables-end c = search (rules, new_cases)
