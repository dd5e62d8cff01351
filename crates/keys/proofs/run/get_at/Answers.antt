use borrow.Author.Rules.{rules}
use Rattle.keys.proofs.KeyReturns.{key_cases}
use Rattle.keys.proofs.run.get_at.Goals as goal

pub offset_bounds-run-i : goal.offset_bounds-run-i
offset_bounds-run-i c = search (rules, key_cases)

pub bounds-run-i : goal.bounds-run-i
bounds-run-i c = search (rules, key_cases)

pub returns-then-i-run : goal.returns-then-i-run
returns-then-i-run c = search (rules, key_cases)

pub returns-else-i-run : goal.returns-else-i-run
returns-else-i-run c = search (rules, key_cases)
