use borrow.Author.Rules.{rules}
use Rattle.passes.proofs.BytesReturns.{put_root_cases}
use Rattle.passes.proofs.bytes.put_root.Goals as goal

pub returns : goal.returns
returns c = search (rules, put_root_cases)
