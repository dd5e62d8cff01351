use Rattle.places.proofs.WholeReturns.{open_inside, close_inside, name_inside, tree_found}
use Rattle.places.proofs.whole.tree_indices.Goals as goal

pub key_at-opening-requires : goal.key_at-opening-requires
key_at-opening-requires c = open_inside _ _ c.requires.0

pub close_or_open-closing-requires : goal.close_or_open-closing-requires
close_or_open-closing-requires c = close_inside _ _ c.requires.0

pub name_or_first-name-requires : goal.name_or_first-name-requires
name_or_first-name-requires c = name_inside _ _ c.requires.0

pub returns : goal.returns
returns c = tree_found _ _ _ _ _ c.requires.1 _ _ _ c.key_at-opening.ensures c.close_or_open-closing.ensures c.name_or_first-name.ensures _ _ _ c.part_place-o.ensures c.close_place.ensures c.symbol_place.ensures
