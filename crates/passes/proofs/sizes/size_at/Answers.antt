use borrow.Author.Rules.{rules}
use Rattle.passes.proofs.SizesReturns.{size_at_cases}
use Rattle.passes.proofs.sizes.size_at.Goals as goal

pub children_of-children-requires : goal.children_of-children-requires
children_of-children-requires c = search (rules, size_at_cases)

pub overflow_cast-size : goal.overflow_cast-size
overflow_cast-size c = search (rules, size_at_cases)

pub overflow_add-work-2 : goal.overflow_add-work-2
overflow_add-work-2 c = search (rules, size_at_cases)

pub returns-clause-filled : goal.returns-clause-filled
returns-clause-filled c = search (rules, size_at_cases)
