use Rattle.places.proofs.ResolveReturns.{indexed_whole}
use Rattle.places.proofs.resolve.resolve.Goals as goal

pub resolve_whole-requires-clause-whole : goal.resolve_whole-requires-clause-whole
resolve_whole-requires-clause-whole c = indexed_whole _ _ _ _ _ _ c.requires.roomy c.requires.indexed c.are_whole.ensures c.if-are_whole.true
