use borrow.Author.Rules.{rules}
use Rattle.reference.proofs.PackReturns.{pack_word_cases}
use Rattle.reference.proofs.span.pack_small.Goals as goal

pub returns-then-saturating_sub-lt4 : goal.returns-then-saturating_sub-lt4
returns-then-saturating_sub-lt4 c = search (rules, pack_word_cases)

pub returns : goal.returns
returns c = search (rules, pack_word_cases)
