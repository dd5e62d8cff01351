use borrow.Author.Rules.{rules}
use Rattle.passes.proofs.BytesReturns.{put_once_cases}
use Rattle.passes.proofs.bytes.put_once.Goals as goal

pub returns-then-count-eq0 : goal.returns-then-count-eq0
returns-then-count-eq0 c = search (rules, put_once_cases)

pub returns : goal.returns
returns c = search (rules, put_once_cases)
