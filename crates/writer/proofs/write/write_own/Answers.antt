use borrow.Author.Rules.{rules}
use Rattle.writer.proofs.EncodeReturns.{own_cases}
use Rattle.writer.proofs.write.write_own.Goals as goal

pub returns : goal.returns
returns c = search (rules, own_cases)
