use borrow.Author.Rules.{rules}
use Rattle.unpack.proofs.LeafReturns.{leaf_cases}
use Rattle.unpack.proofs.leaf.is_leaf_in.Goals as goal

pub loop-m-init : goal.loop-m-init
loop-m-init c = search (rules, leaf_cases)

pub loop-m-preserved : goal.loop-m-preserved
loop-m-preserved c = search (rules, leaf_cases)
