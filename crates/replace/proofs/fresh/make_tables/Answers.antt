use borrow.Author.Rules.{rules}
use Rattle.replace.proofs.FreshReturns.{table_cases}
use Rattle.replace.proofs.fresh.make_tables.Goals as goal

pub returns : goal.returns
returns c = search (rules, table_cases)

pub make_parts-parts-requires : goal.make_parts-parts-requires
make_parts-parts-requires c = search (rules, table_cases)
