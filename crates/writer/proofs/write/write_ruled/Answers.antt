use borrow.Author.Rules.{rules}
use Rattle.writer.proofs.EncodeReturns.{ruled_cases}
use Rattle.writer.proofs.write.write_ruled.Goals as goal

pub returns-then-not-root_present : goal.returns-then-not-root_present
returns-then-not-root_present c = search (rules, ruled_cases)
