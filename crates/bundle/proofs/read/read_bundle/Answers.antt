use borrow.Author.Rules.{rules}
use Rattle.bundle.proofs.ReadReturns.{read_cases}
use Rattle.bundle.proofs.read.read_bundle.Goals as goal

pub loop-at-init : goal.loop-at-init
loop-at-init c = search (rules, read_cases)

pub loop-at-preserved-then-is_entry : goal.loop-at-preserved-then-is_entry
loop-at-preserved-then-is_entry c = search (rules, read_cases)

pub loop-at-preserved : goal.loop-at-preserved
loop-at-preserved c = search (rules, read_cases)

pub returns-else-is_entry-2 : goal.returns-else-is_entry-2
returns-else-is_entry-2 c = search (rules, read_cases)

pub returns : goal.returns
returns c = search (rules, read_cases)
