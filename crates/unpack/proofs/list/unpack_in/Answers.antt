use borrow.Author.Rules.{rules}
use Rattle.unpack.proofs.ListReturns.{unpacked_cases}
use Rattle.unpack.proofs.list.unpack_in.Goals as goal

pub loop-n-init : goal.loop-n-init
loop-n-init c = search (rules, unpacked_cases)

pub loop-n-preserved : goal.loop-n-preserved
loop-n-preserved c = search (rules, unpacked_cases)
