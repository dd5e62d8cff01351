use borrow.Author.Rules.{rules}
use Rattle.keys.proofs.KeyReturns.{key_cases}
use Rattle.keys.proofs.key.Keys.put.Goals as goal

pub place_of-a-requires : goal.place_of-a-requires
place_of-a-requires c = search (rules, key_cases)

pub offset_bounds-l-a : goal.offset_bounds-l-a
offset_bounds-l-a c = search (rules, key_cases)

pub bounds-l-a : goal.bounds-l-a
bounds-l-a c = search (rules, key_cases)

pub set_at-requires : goal.set_at-requires
set_at-requires c = search (rules, key_cases)

pub returns-then-self : goal.returns-then-self
returns-then-self c = search (rules, key_cases)

pub overflow_mul-k : goal.overflow_mul-k
overflow_mul-k c = search (rules, key_cases)

pub put_part-requires : goal.put_part-requires
put_part-requires c = search (rules, key_cases)

pub returns : goal.returns
returns c = search (rules, key_cases)
