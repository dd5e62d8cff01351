use borrow.Author.Rules.{rules}
use Rattle.lister.proofs.ListReturns.{list_cases}
use Rattle.lister.proofs.list.list_bundle.Goals as goal

pub returns-then-b-gt-MOST-clause-fits : goal.returns-then-b-gt-MOST-clause-fits
returns-then-b-gt-MOST-clause-fits c = search (rules, list_cases)

pub returns-in_default-clause-text : goal.returns-in_default-clause-text
returns-in_default-clause-text c = search (rules, list_cases)

pub returns-in_default-clause-fits : goal.returns-in_default-clause-fits
returns-in_default-clause-fits c = search (rules, list_cases)

pub slice_bounds-list_buffer-count : goal.slice_bounds-list_buffer-count
slice_bounds-list_buffer-count c = search (rules, list_cases)

pub slice_bounds-list_buffer-start : goal.slice_bounds-list_buffer-start
slice_bounds-list_buffer-start c = search (rules, list_cases)

pub returns-clause-text : goal.returns-clause-text
returns-clause-text c = search (rules, list_cases)

pub returns-clause-fits : goal.returns-clause-fits
returns-clause-fits c = search (rules, list_cases)
