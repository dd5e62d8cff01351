use borrow.Author.Rules.{rules}
use Rattle.keys.proofs.KeyReturns.{key_cases}
use Rattle.keys.proofs.key.put_part.Goals as goal

pub offset_bounds-l-from : goal.offset_bounds-l-from
offset_bounds-l-from c = search (rules, key_cases)

pub bounds-l-from : goal.bounds-l-from
bounds-l-from c = search (rules, key_cases)

pub overflow_add-from : goal.overflow_add-from
overflow_add-from c = search (rules, key_cases)

pub offset_bounds-l-from-2 : goal.offset_bounds-l-from-2
offset_bounds-l-from-2 c = search (rules, key_cases)

pub bounds-l-from-2 : goal.bounds-l-from-2
bounds-l-from-2 c = search (rules, key_cases)

pub overflow_add-from-2 : goal.overflow_add-from-2
overflow_add-from-2 c = search (rules, key_cases)

pub offset_bounds-l-from-3 : goal.offset_bounds-l-from-3
offset_bounds-l-from-3 c = search (rules, key_cases)

pub bounds-l-from-3 : goal.bounds-l-from-3
bounds-l-from-3 c = search (rules, key_cases)

pub put_words-requires : goal.put_words-requires
put_words-requires c = search (rules, key_cases)

pub returns : goal.returns
returns c = search (rules, key_cases)
