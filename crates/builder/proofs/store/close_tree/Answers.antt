use borrow.Author.Rules.{rules}
use Rattle.builder.proofs.StoreReturns.{close_cases}
use Rattle.builder.proofs.store.close_tree.Goals as goal

pub overflow_mul-m : goal.overflow_mul-m
overflow_mul-m c = search (rules, close_cases)

pub overflow_add-m : goal.overflow_add-m
overflow_add-m c = search (rules, close_cases)

pub slice_bounds-put_words-end : goal.slice_bounds-put_words-end
slice_bounds-put_words-end c = search (rules, close_cases)

pub put_words-requires : goal.put_words-requires
put_words-requires c = search (rules, close_cases)

pub span_words-words-requires : goal.span_words-words-requires
span_words-words-requires c = search (rules, close_cases)

pub overflow_mul-m-2 : goal.overflow_mul-m-2
overflow_mul-m-2 c = search (rules, close_cases)

pub overflow_add-m-2 : goal.overflow_add-m-2
overflow_add-m-2 c = search (rules, close_cases)

pub slice_bounds-put_words-end-2 : goal.slice_bounds-put_words-end-2
slice_bounds-put_words-end-2 c = search (rules, close_cases)

pub put_words-requires-2 : goal.put_words-requires-2
put_words-requires-2 c = search (rules, close_cases)

pub returns : goal.returns
returns c = search (rules, close_cases)
