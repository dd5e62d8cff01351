use borrow.Author.Rules.{rules}
use Rattle.keys.proofs.KeyReturns.{key_cases}
use Rattle.keys.proofs.key.Keys.is_live.Goals as goal

pub sort_of-kind-requires : goal.sort_of-kind-requires
sort_of-kind-requires c = search (rules, key_cases)

pub returns-then-kind-eq1 : goal.returns-then-kind-eq1
returns-then-kind-eq1 c = search (rules, key_cases)

pub returns-else-kind-eq1 : goal.returns-else-kind-eq1
returns-else-kind-eq1 c = search (rules, key_cases)

pub sort_of-requires : goal.sort_of-requires
sort_of-requires c = search (rules, key_cases)

pub returns-then-v-eq0 : goal.returns-then-v-eq0
returns-then-v-eq0 c = search (rules, key_cases)

pub returns-else-v-eq0 : goal.returns-else-v-eq0
returns-else-v-eq0 c = search (rules, key_cases)
