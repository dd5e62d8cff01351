use borrow.Author.Rules.{rules}
use Rattle.reference.proofs.PackReturns.{pack_word_cases}
use Rattle.reference.proofs.span.pack_extended.Goals as goal

pub returns-then-saturating_sub-lt8 : goal.returns-then-saturating_sub-lt8
returns-then-saturating_sub-lt8 c = search (rules, pack_word_cases)

pub returns : goal.returns
returns c = search (rules, pack_word_cases)
