use borrow.Author.Rules.{rules}
use Rattle.cursor.proofs.OpenReturns.{nested_cases}
use Rattle.cursor.proofs.open.nested.Goals.{then-from-numbers-via-then-from-numbers, then-from-numbers-via-else-from-numbers+then-place-places, then-from-numbers-via-else-from-numbers+else-place-places+then-end-to}
use Rattle.cursor.proofs.open.nested.Goals as goal

pub returns-then-from-numbers : goal.returns-then-from-numbers
returns-then-from-numbers c =
    elim c.then-from-numbers.branch [
      | then-from-numbers-via-then-from-numbers w ↦ search (rules, nested_cases)
      | then-from-numbers-via-else-from-numbers+then-place-places w ↦ search (rules, nested_cases)
      | then-from-numbers-via-else-from-numbers+else-place-places+then-end-to w ↦ search (rules, nested_cases)
    ]
