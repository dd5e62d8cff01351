use borrow.Author.Rules.{rules}
use Rattle.root.proofs.RewriteReturns.{put_cases}
use Rattle.root.proofs.put_pair.Goals as goal

pub returns : goal.returns
returns c = search (rules, put_cases)
