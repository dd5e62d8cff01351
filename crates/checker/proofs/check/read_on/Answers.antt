use borrow.Author.Rules.{rules}
use Rattle.checker.proofs.CheckReturns.{read_cases}
use Rattle.checker.proofs.check.read_on.Goals as goal

pub returns-in-Err : goal.returns-in-Err
returns-in-Err c = search (rules, read_cases)

pub loop-tree-preserved : goal.loop-tree-preserved
loop-tree-preserved c = search (rules, read_cases)

pub returns : goal.returns
returns c = search (rules, read_cases)
