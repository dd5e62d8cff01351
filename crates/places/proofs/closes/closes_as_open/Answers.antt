use Rattle.places.proofs.WholeReturns.{open_inside, close_inside}
use Rattle.places.proofs.closes.closes_as_open.Goals as goal

pub key_at-requires : goal.key_at-requires
key_at-requires c = close_inside _ _ c.requires

pub key_at-requires-else-l-n-le-LITERAL : goal.key_at-requires-else-l-n-le-LITERAL
key_at-requires-else-l-n-le-LITERAL c = open_inside _ _ c.requires
