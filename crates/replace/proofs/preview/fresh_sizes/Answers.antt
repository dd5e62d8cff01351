use Rattle.replace.proofs.PreviewReturns.{own_sized, held_ruled, sizes_found}
use Rattle.replace.proofs.preview.fresh_sizes.Goals as goal

pub write_own-requires-clause-symbols_value : goal.write_own-requires-clause-symbols_value
write_own-requires-clause-symbols_value c = own_sized _ _ _ _ c.args.own.now.tables c.requires

pub write_own-requires-clause-l_value : goal.write_own-requires-clause-l_value
write_own-requires-clause-l_value c = held_ruled _ _ _ _ c.args.own.now.tables c.requires

pub returns : goal.returns
returns c = sizes_found _ _ _ _ c.args.own.now.tables c.requires _ _ _ _ c.write_own.ensures _ c.place.ensures.0
