use mathlib.Core.Path.{◌∙◌}
use Rattle.distinct.proofs.CountReturns.{key_fits, room_most}
use Rattle.distinct.proofs.count.has_room.Goals as goal

pub is_ample-requires-else-is_ample : goal.is_ample-requires-else-is_ample
is_ample-requires-else-is_ample c = (key_fits _ _ _ _ c.counts.ensures c.count.ensures c.args.keys.now.few, c.requires)

pub returns-then-is_ample : goal.returns-then-is_ample
returns-then-is_ample c = c.if-is_ample.true ∙ room_most _ _ _ _ _ _ _ c.count.ensures c.is_ample.ensures c.if-is_ample.true
