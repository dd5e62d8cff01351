use borrow.Author.Rules.{rules}
use Rattle.unpack.proofs.LeafReturns.{onward_cases}
use Rattle.unpack.proofs.leaf.onward.Goals as goal

pub toward-requires-clause-children_bound : goal.toward-requires-clause-children_bound
toward-requires-clause-children_bound c = search (rules, onward_cases)
