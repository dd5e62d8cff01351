use borrow.Author.Rules.{rules}
use Rattle.unpack.proofs.WordsReturns.{raw_cases, open_cases, close_cases}
use Rattle.unpack.proofs.words.raw_words.Goals as goal

pub returns-then-n-eq0 : goal.returns-then-n-eq0
returns-then-n-eq0 c = search (rules, raw_cases)

pub returns-in-Ident : goal.returns-in-Ident
returns-in-Ident c = search (rules, raw_cases)

pub returns-in-Literal : goal.returns-in-Literal
returns-in-Literal c = search (rules, raw_cases)

pub returns-else-n-eq0 : goal.returns-else-n-eq0
returns-else-n-eq0 c = search (rules, raw_cases)

pub subtree_words-requires-in-Subtree : goal.subtree_words-requires-in-Subtree
subtree_words-requires-in-Subtree c = (search (rules, open_cases), search (rules, close_cases))
