use borrow.Author.Rules.{rules}
use Rattle.checker.proofs.GlanceReturns.{at_got}
use Rattle.checker.proofs.glance.glance_at.Goals as goal

pub returns : goal.returns
returns c = search (rules, at_got)
