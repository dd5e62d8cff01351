use borrow.Author.Rules.{rules}
use Rattle.keys.proofs.KeyReturns.{key_cases}
use Rattle.keys.proofs.key.place_of.Goals as goal

pub overflow_add-result : goal.overflow_add-result
overflow_add-result c = search (rules, key_cases)

pub overflow_mul-result : goal.overflow_mul-result
overflow_mul-result c = search (rules, key_cases)

pub returns-then-symbols : goal.returns-then-symbols
returns-then-symbols c = search (rules, key_cases)

pub overflow_add-result-2 : goal.overflow_add-result-2
overflow_add-result-2 c = search (rules, key_cases)

pub overflow_mul-result-2 : goal.overflow_mul-result-2
overflow_mul-result-2 c = search (rules, key_cases)

pub overflow_mul-result-3 : goal.overflow_mul-result-3
overflow_mul-result-3 c = search (rules, key_cases)

pub overflow_add-result-3 : goal.overflow_add-result-3
overflow_add-result-3 c = search (rules, key_cases)

pub overflow_add-result-4 : goal.overflow_add-result-4
overflow_add-result-4 c = search (rules, key_cases)

pub returns : goal.returns
returns c = search (rules, key_cases)
