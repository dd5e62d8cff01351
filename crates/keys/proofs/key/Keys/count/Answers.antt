use borrow.Author.Rules.{rules}
use Rattle.keys.proofs.KeyReturns.{key_cases}
use Rattle.keys.proofs.key.Keys.count.Goals as goal

pub returns-then-k-eq0 : goal.returns-then-k-eq0
returns-then-k-eq0 c = search (rules, key_cases)

pub overflow_sub-result : goal.overflow_sub-result
overflow_sub-result c = search (rules, key_cases)

pub returns-then-self : goal.returns-then-self
returns-then-self c = search (rules, key_cases)

pub overflow_sub-result-2 : goal.overflow_sub-result-2
overflow_sub-result-2 c = search (rules, key_cases)

pub overflow_mul-result : goal.overflow_mul-result
overflow_mul-result c = search (rules, key_cases)

pub returns : goal.returns
returns c = search (rules, key_cases)
