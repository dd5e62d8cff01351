use borrow.Author.Rules.{rules}
use Rattle.keys.proofs.KeyReturns.{key_cases}
use Rattle.keys.proofs.key.put_words.Goals as goal

pub set_at-requires : goal.set_at-requires
set_at-requires c = search (rules, key_cases)

pub overflow_add-at : goal.overflow_add-at
overflow_add-at c = search (rules, key_cases)

pub set_at-requires-2 : goal.set_at-requires-2
set_at-requires-2 c = search (rules, key_cases)

pub overflow_add-at-2 : goal.overflow_add-at-2
overflow_add-at-2 c = search (rules, key_cases)

pub set_at-requires-3 : goal.set_at-requires-3
set_at-requires-3 c = search (rules, key_cases)

pub returns : goal.returns
returns c = search (rules, key_cases)
