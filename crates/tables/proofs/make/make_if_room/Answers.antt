use borrow.Author.Rules.{rules}
use Rattle.tables.proofs.MakeReturns.{make_cases, rows_fit, parts_6, symbols_6}
use Rattle.tables.proofs.make.make_if_room.Goals as goal
use Rattle.tables.proofs.make.make_if_room.Goals.{else-has_room-via-then-has_room+else-has_room-2, else-has_room-via-else-has_room}

pub overflow_mul-has_room : goal.overflow_mul-has_room
overflow_mul-has_room c = search (rules, make_cases)

pub has_room-requires : goal.has_room-requires
has_room-requires c = search (rules, make_cases)

pub has_room-requires-then-has_room : goal.has_room-requires-then-has_room
has_room-requires-then-has_room c = search (rules, make_cases)

pub make_both-requires : goal.make_both-requires
make_both-requires c = search (rules, make_cases)

pub returns-then-has_room-2 : goal.returns-then-has_room-2
returns-then-has_room-2 c = search (rules, make_cases)

pub returns : goal.returns
returns c =
    elim c.else-has_room.branch [
      | else-has_room-via-then-has_room+else-has_room-2 w ↦ symbols_6 _ _ _ _ _ c.requires _ w.has_room-then-has_room.ensures w.if-has_room-2.false
      | else-has_room-via-else-has_room w ↦ parts_6 _ _ _ _ _ c.requires _ c.has_room.ensures w.if-has_room.false
    ]

pub invariant_of-part_keys : goal.invariant_of-part_keys
invariant_of-part_keys c = record { few = rows_fit _ _ c.requires }

pub invariant_of-symbol_keys : goal.invariant_of-symbol_keys
invariant_of-symbol_keys c = record { few = rows_fit _ _ c.requires }
