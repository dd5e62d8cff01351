use borrow.Author.Rules.{rules}
use Rattle.passes.proofs.FiveReturns.{present_cases}
use Rattle.passes.proofs.five.is_present.Goals as goal

pub returns-then-all_present : goal.returns-then-all_present
returns-then-all_present c = search (rules, present_cases)

pub returns-then-limit-place : goal.returns-then-limit-place
returns-then-limit-place c = search (rules, present_cases)

pub returns-then-sort-eq-PUNCT : goal.returns-then-sort-eq-PUNCT
returns-then-sort-eq-PUNCT c = search (rules, present_cases)

pub returns-then-sort-lt-SUBTREE : goal.returns-then-sort-lt-SUBTREE
returns-then-sort-lt-SUBTREE c = search (rules, present_cases)

pub returns-else-sort-lt-SUBTREE : goal.returns-else-sort-lt-SUBTREE
returns-else-sort-lt-SUBTREE c = search (rules, present_cases)
