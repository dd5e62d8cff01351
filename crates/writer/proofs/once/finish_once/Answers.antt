use borrow.Author.Rules.{rules}
use Rattle.writer.proofs.EncodeReturns.{finish_cases}
use Rattle.writer.proofs.once.finish_once.Goals as goal

pub returns-then-out-total : goal.returns-then-out-total
returns-then-out-total c = search (rules, finish_cases)

pub returns : goal.returns
returns c = search (rules, finish_cases)
