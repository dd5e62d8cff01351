use borrow.Author.Rules.{rules}
use Rattle.checker.proofs.CheckReturns.{buffer_cases}
use Rattle.checker.proofs.check.check_buffer.Goals as goal

pub returns-then-parts-ne0 : goal.returns-then-parts-ne0
returns-then-parts-ne0 c = search (rules, buffer_cases)

pub returns : goal.returns
returns c = search (rules, buffer_cases)
