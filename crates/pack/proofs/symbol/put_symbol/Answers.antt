use borrow.Author.Rules.{rules}
use Rattle.pack.proofs.SymbolReturns.{put_symbol_cases}
use Rattle.pack.proofs.symbol.put_symbol.Goals as goal

pub put_byte-requires : goal.put_byte-requires
put_byte-requires c = search (rules, put_symbol_cases)

pub put_byte-requires-2 : goal.put_byte-requires-2
put_byte-requires-2 c = search (rules, put_symbol_cases)

pub put_byte-requires-then-index-lt-TWO_BYTES : goal.put_byte-requires-then-index-lt-TWO_BYTES
put_byte-requires-then-index-lt-TWO_BYTES c = search (rules, put_symbol_cases)

pub put_byte-requires-3 : goal.put_byte-requires-3
put_byte-requires-3 c = search (rules, put_symbol_cases)

pub put_half-requires : goal.put_half-requires
put_half-requires c = search (rules, put_symbol_cases)
