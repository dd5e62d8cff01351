use borrow.Author.Rules.{rules}
use Rattle.writer.proofs.EncodeReturns.{refuse_answer}
use Rattle.writer.proofs.refuse.refuse.Goals as goal

pub returns : goal.returns
returns c = search (rules, refuse_answer)
