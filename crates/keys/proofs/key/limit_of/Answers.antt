use borrow.Author.Rules.{rules}
use Rattle.keys.proofs.KeyReturns.{key_cases}
use Rattle.keys.proofs.key.limit_of.Goals as goal

pub returns-then-symbols : goal.returns-then-symbols
returns-then-symbols c = search (rules, key_cases)

pub returns-else-symbols : goal.returns-else-symbols
returns-else-symbols c = search (rules, key_cases)
