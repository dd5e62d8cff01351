use mathlib.Core.Path.{refl}
use native.Mathlib.Omega.{arith}
use borrow.Author.Rules.{rules}
use Rattle.keys.proofs.Lists.{zeros_pos, zeros_most}
use Rattle.distinct.proofs.GatherReturns.{filled_none}
use Rattle.distinct.proofs.classes.one_class.Goals as goal

pub join_class-requires : goal.join_class-requires
join_class-requires c = record {
  classes_bound = search rules;
  table_nonzero = (zeros_pos 65536 (omega arith), zeros_most 65536 1048576 (omega arith));
  firsts_len_bound = (zeros_most 32768 1048576 (omega arith), refl);
  filled = filled_none _ _ _ _ 65536 32768 _;
  room = search rules;
}
