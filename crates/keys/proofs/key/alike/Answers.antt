use borrow.Author.Rules.{rules}
use Rattle.keys.proofs.KeyReturns.{key_cases}
use Rattle.keys.proofs.key.alike.Goals as goal

pub returns-then-symbols : goal.returns-then-symbols
returns-then-symbols c = search (rules, key_cases)

pub returns-then-l-a-2 : goal.returns-then-l-a-2
returns-then-l-a-2 c = search (rules, key_cases)

pub returns-else-l-a-2 : goal.returns-else-l-a-2
returns-else-l-a-2 c = search (rules, key_cases)

pub returns-else-l-a : goal.returns-else-l-a
returns-else-l-a c = search (rules, key_cases)
