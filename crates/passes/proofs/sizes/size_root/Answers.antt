use borrow.Author.Rules.{rules}
use Rattle.passes.proofs.SizesReturns.{root_word_cases}
use Rattle.passes.proofs.sizes.size_root.Goals as goal

pub overflow_add-work : goal.overflow_add-work
overflow_add-work c = search (rules, root_word_cases)

pub returns-clause-filled : goal.returns-clause-filled
returns-clause-filled c = search (rules, root_word_cases)
