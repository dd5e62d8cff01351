use borrow.Author.Rules.{rules}
use Rattle.text.proofs.TextReturns.{text_cases}
use Rattle.text.proofs.put_text.Goals as goal

pub loop-byte-preserved : goal.loop-byte-preserved
loop-byte-preserved c = search (rules, text_cases)
