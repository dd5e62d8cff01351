use Rattle.places.proofs.IndexReturns.{finds_none}
use Rattle.places.proofs.index.Index.find.Goals as goal

pub returns-in_default : goal.returns-in_default
returns-in_default c = finds_none _ _ _ _ _ c.args.self.loaded _ _ c.slot_of-start.ensures.0 _ c.look.ensures c.in_default.not-Found
