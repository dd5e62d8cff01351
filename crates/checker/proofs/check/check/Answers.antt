use borrow.Author.Rules.{rules}
use Rattle.checker.proofs.CheckReturns.{check_cases}
use Rattle.checker.proofs.check.check.Goals as goal

pub returns-then-not-is_sized : goal.returns-then-not-is_sized
returns-then-not-is_sized c = search (rules, check_cases)

pub returns : goal.returns
returns c = search (rules, check_cases)
