use borrow.Author.Rules.{rules}
use Rattle.replace.proofs.FreshReturns.{symbol_cases}
use Rattle.tables.proofs.MakeReturns.{rows_fit}
use Rattle.replace.proofs.fresh.make_symbols.Goals as goal

pub invariant_of-keys : goal.invariant_of-keys
invariant_of-keys c = record { few = rows_fit _ _ c.requires.rows }

pub make_table-requires : goal.make_table-requires
make_table-requires c = search (rules, symbol_cases)

pub returns : goal.returns
returns c = search (rules, symbol_cases)
