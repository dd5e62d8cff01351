use borrow.Author.Rules.{rules}
use Rattle.writer.proofs.EncodeReturns.{once_cases}
use Rattle.writer.proofs.once.write_run.Goals as goal

pub write_sized-requires-clause-passed : goal.write_sized-requires-clause-passed
write_sized-requires-clause-passed c = search (rules, once_cases)

pub returns-then-found-count : goal.returns-then-found-count
returns-then-found-count c = search (rules, once_cases)
