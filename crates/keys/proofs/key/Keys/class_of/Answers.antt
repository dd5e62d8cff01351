use borrow.Author.Rules.{rules}
use Rattle.keys.proofs.KeyReturns.{key_cases}
use Rattle.keys.proofs.key.Keys.class_of.Goals as goal

pub place_of-a-requires : goal.place_of-a-requires
place_of-a-requires c = search (rules, key_cases)

pub offset_bounds-l-a : goal.offset_bounds-l-a
offset_bounds-l-a c = search (rules, key_cases)

pub bounds-l-a : goal.bounds-l-a
bounds-l-a c = search (rules, key_cases)

pub mix-requires : goal.mix-requires
mix-requires c = search (rules, key_cases)

pub returns-then-self : goal.returns-then-self
returns-then-self c = search (rules, key_cases)

pub overflow_add-a : goal.overflow_add-a
overflow_add-a c = search (rules, key_cases)

pub offset_bounds-l-a-2 : goal.offset_bounds-l-a-2
offset_bounds-l-a-2 c = search (rules, key_cases)

pub bounds-l-a-2 : goal.bounds-l-a-2
bounds-l-a-2 c = search (rules, key_cases)

pub offset_bounds-l-a-3 : goal.offset_bounds-l-a-3
offset_bounds-l-a-3 c = search (rules, key_cases)

pub bounds-l-a-3 : goal.bounds-l-a-3
bounds-l-a-3 c = search (rules, key_cases)

pub overflow_add-a-2 : goal.overflow_add-a-2
overflow_add-a-2 c = search (rules, key_cases)

pub offset_bounds-l-a-4 : goal.offset_bounds-l-a-4
offset_bounds-l-a-4 c = search (rules, key_cases)

pub bounds-l-a-4 : goal.bounds-l-a-4
bounds-l-a-4 c = search (rules, key_cases)

pub mix-requires-2 : goal.mix-requires-2
mix-requires-2 c = search (rules, key_cases)

pub returns : goal.returns
returns c = search (rules, key_cases)
