use borrow.Author.Rules.{rules}
use Rattle.reference.proofs.PackReturns.{pack_word_cases}
use Rattle.reference.proofs.span.pack_heavy.Goals as goal

pub returns-then-saturating_sub-lt12 : goal.returns-then-saturating_sub-lt12
returns-then-saturating_sub-lt12 c = search (rules, pack_word_cases)

pub returns : goal.returns
returns c = search (rules, pack_word_cases)
