use borrow.Author.Rules.{rules}
use Rattle.distinct.proofs.SelectReturns.{stretch_cases}
use Rattle.distinct.proofs.gather.enter_stretch.Goals as goal

pub slice_bounds-select-end : goal.slice_bounds-select-end
slice_bounds-select-end c = search (rules, stretch_cases)

pub select-m-requires : goal.select-m-requires
select-m-requires c = search (rules, stretch_cases)

pub number-from-requires : goal.number-from-requires
number-from-requires c = search (rules, stretch_cases)

pub number-to-requires : goal.number-to-requires
number-to-requires c = search (rules, stretch_cases)

pub slice_bounds-enter_chosen-end : goal.slice_bounds-enter_chosen-end
slice_bounds-enter_chosen-end c = search (rules, stretch_cases)

pub enter_chosen-requires : goal.enter_chosen-requires
enter_chosen-requires c = search (rules, stretch_cases)

pub returns : goal.returns
returns c = search (rules, stretch_cases)
