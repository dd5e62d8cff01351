use borrow.Author.Rules.{rules}
use Rattle.checker.proofs.CheckReturns.{finish_cases}
use Rattle.checker.proofs.check.check_in.Goals as goal

pub finish_stopped-requires : goal.finish_stopped-requires
finish_stopped-requires c = search (rules, finish_cases)
