use mathlib.Core.Path.{refl}
use borrow.Author.Rules.{rules}
use Rattle.tables.proofs.MakeReturns.{room_ample, make_cases, both_made, rows_fit}
use Rattle.tables.proofs.make.make_both.Goals as goal

pub invariant_of-keys : goal.invariant_of-keys
invariant_of-keys c = record { few = rows_fit _ _ c.requires.l_value }

pub make_table-s-requires : goal.make_table-s-requires
make_table-s-requires c = record { room = search (rules, room_ample) }

pub make_parts-p-requires : goal.make_parts-p-requires
make_parts-p-requires c = search (rules, make_cases)

pub returns : goal.returns
returns c =
    let parts = c.make_parts-p in
    let symbols = c.make_table-s in
    both_made _ _ _ _ _ c.requires.l_value c.requires.part_counts_value c.requires.symbol_counts_value _ _ _ _ _ _ _ _ parts.ensures symbols.ensures.made refl refl
