use mathlib.Core.Path.{refl}
use borrow.Author.Rules.{rules}
use Rattle.keys.proofs.Lists.{zeros_pos, zeros_most}
use Rattle.order.proofs.ArrangeLaw.{counted_zeros}
use Rattle.distinct.proofs.GatherReturns.{filled_none}
use Rattle.entries.proofs.TableReturns.{zeros_le}
use Rattle.entries.proofs.table.table_in.Goals as goal

pub through-requires : goal.through-requires
through-requires g c = record {
  table_nonzero = (zeros_pos g.row.SLOTS c.requires.sizes.0, zeros_most g.row.SLOTS 1048576 c.requires.sizes.1, zeros_le g.row.ROOM g.row.SLOTS c.requires.sizes.2);
  counts_len = (refl, counted_zeros _ g.row.STARTS);
  filled = filled_none _ _ 1 0 g.row.SLOTS g.row.ROOM _;
  room = search rules;
}
