use borrow.Author.Rules.{rules}
use Rattle.pack.proofs.PackReturns.{pack_rests_cases}
use Rattle.pack.proofs.span.pack_by_rests.Goals as goal
use Rattle.pack.proofs.span.pack_by_rests.Goals.{then-not-heavy+else-are_none+else-fit_second_word, else-not-heavy}

pub returns-then-are_none : goal.returns-then-are_none
returns-then-are_none c = search (rules, pack_rests_cases)

pub returns-then-fit_second_word : goal.returns-then-fit_second_word
returns-then-fit_second_word c = search (rules, pack_rests_cases)

pub returns : goal.returns
returns c =
    elim c.if-not-heavy.branch [
      | then-not-heavy+else-are_none+else-fit_second_word w ↦ search (rules, pack_rests_cases)
      | else-not-heavy w ↦ search (rules, pack_rests_cases)
    ]
