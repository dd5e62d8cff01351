use borrow.Author.Rules.{rules}
use Rattle.keys.proofs.KeyReturns.{key_cases}
use Rattle.keys.proofs.key.Keys.is_live_in.Goals as goal

pub returns-then-classes-le1 : goal.returns-then-classes-le1
returns-then-classes-le1 c = search (rules, key_cases)

pub returns-else-classes-le1 : goal.returns-else-classes-le1
returns-else-classes-le1 c = search (rules, key_cases)

pub returns-else-is_live : goal.returns-else-is_live
returns-else-is_live c = search (rules, key_cases)
