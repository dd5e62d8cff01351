use borrow.Author.Rules.{rules}
use Rattle.entries.proofs.TableReturns.{emit_one_cases}
use Rattle.entries.proofs.table.emit_one.Goals as goal

pub get_at-x-requires : goal.get_at-x-requires
get_at-x-requires c = search (rules, emit_one_cases)

pub put-requires : goal.put-requires
put-requires c = search (rules, emit_one_cases)

pub set_at-requires : goal.set_at-requires
set_at-requires c = search (rules, emit_one_cases)

pub returns : goal.returns
returns c = search (rules, emit_one_cases)
