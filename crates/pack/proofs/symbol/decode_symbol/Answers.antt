use borrow.Author.Rules.{rules}
use Rattle.pack.proofs.SymbolReturns.{decode_symbol_cases}
use Rattle.pack.proofs.symbol.decode_symbol.Goals as goal

pub returns-then-x-eq0 : goal.returns-then-x-eq0
returns-then-x-eq0 c = search (rules, decode_symbol_cases)

pub returns-then-y-eq0 : goal.returns-then-y-eq0
returns-then-y-eq0 c = search (rules, decode_symbol_cases)

pub returns : goal.returns
returns c = search (rules, decode_symbol_cases)
