use Rattle.tree.proofs.OwnMode.{own_whole, own_mode_lem}
use Rattle.tree.proofs.own.own_tables.Goals as goal

pub invariant_of-result : goal.invariant_of-result
invariant_of-result c = record { whole = own_whole _ _ c.requires c.own_limits-limits.result c.own_limits-limits.ensures.0 }

pub returns : goal.returns
returns c = own_mode_lem _ _ c.requires c.own_limits-limits.result c.own_limits-limits.ensures.0
