use Rattle.distinct.proofs.GatherReturns.{filled_none}
use Rattle.distinct.proofs.classes.count_in.Goals as goal

pub gather-requires-clause-filled : goal.gather-requires-clause-filled
gather-requires-clause-filled g c = filled_none _ _ _ _ g.row.SLOTS g.row.ROOM _
