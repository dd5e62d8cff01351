use borrow.Author.Rules.{rules}
use Rattle.encode.proofs.ListedReturns.{tail_cases}
use Rattle.encode.proofs.listed.char_size.Goals as goal

pub returns-then-char-lt-ASCII : goal.returns-then-char-lt-ASCII
returns-then-char-lt-ASCII c = search (rules, tail_cases)

pub returns-else-char-lt-ASCII : goal.returns-else-char-lt-ASCII
returns-else-char-lt-ASCII c = search (rules, tail_cases)
