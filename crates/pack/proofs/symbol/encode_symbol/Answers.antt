use borrow.Author.Rules.{rules}
use Rattle.pack.proofs.PackReturns.{encode_symbol_cases}
use Rattle.pack.proofs.symbol.encode_symbol.Goals as goal

pub returns-then-saturating_sub-n : goal.returns-then-saturating_sub-n
returns-then-saturating_sub-n c = search (rules, encode_symbol_cases)

pub returns : goal.returns
returns c = search (rules, encode_symbol_cases)
