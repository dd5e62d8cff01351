use borrow.Author.Rules.{rules}
use Rattle.pack.proofs.PackReturns.{put_words_cases}
use Rattle.pack.proofs.span.put_words.Goals as goal
use Rattle.pack.proofs.span.put_words.Goals.{then-out-bytes-via-then-out-bytes, then-out-bytes-via-else-out-bytes+then-out-bytes-2}

pub returns-then-out-bytes : goal.returns-then-out-bytes
returns-then-out-bytes g c =
    elim c.then-out-bytes.branch [
      | then-out-bytes-via-then-out-bytes w ↦ search (rules, put_words_cases)
      | then-out-bytes-via-else-out-bytes+then-out-bytes-2 w ↦ search (rules, put_words_cases)
    ]

pub loop-i-init : goal.loop-i-init
loop-i-init g c = search (rules, put_words_cases)

pub returns : goal.returns
returns g c = search (rules, put_words_cases)
