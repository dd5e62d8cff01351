use borrow.Author.Rules.{rules}
use Rattle.entries.proofs.TableReturns.{emit_cases}
use Rattle.entries.proofs.table.emit.Goals as goal

pub loop-k-init : goal.loop-k-init
loop-k-init c = search (rules, emit_cases)

pub emit_one-requires : goal.emit_one-requires
emit_one-requires c = search (rules, emit_cases)

pub loop-k-preserved : goal.loop-k-preserved
loop-k-preserved c = search (rules, emit_cases)

pub returns : goal.returns
returns c = search (rules, emit_cases)
