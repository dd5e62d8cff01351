use borrow.Author.Rules.{rules}
use Rattle.lister.proofs.ListReturns.{lines_cases}
use Rattle.lister.proofs.list.put_lines.Goals as goal

pub loop-n-init : goal.loop-n-init
loop-n-init c = search (rules, lines_cases)

pub returns-in_default : goal.returns-in_default
returns-in_default c = search (rules, lines_cases)

pub put_tree-done-requires-clause-follows : goal.put_tree-done-requires-clause-follows
put_tree-done-requires-clause-follows c = search (rules, lines_cases)

pub loop-n-preserved : goal.loop-n-preserved
loop-n-preserved c = search (rules, lines_cases)

pub returns : goal.returns
returns c = search (rules, lines_cases)
