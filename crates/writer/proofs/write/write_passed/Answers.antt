use borrow.Author.Rules.{rules}
use Rattle.writer.proofs.EncodeReturns.{passed_cases}
use Rattle.writer.proofs.write.write_passed.Goals as goal

pub returns-then-work-l : goal.returns-then-work-l
returns-then-work-l c = search (rules, passed_cases)

pub returns : goal.returns
returns c = search (rules, passed_cases)
