use Rattle.std.proofs.Common.{◌-◌, get_or, arith}
use lib.Dec.{ltb}
use Rattle.builder.proofs.RestoreReturns.{byte_most, before_again, before_done}
use Rattle.builder.proofs.state.Builder.open_before.Goals as goal

pub loop-d-preserved : goal.loop-d-preserved
loop-d-preserved c = record {
  few = let h = rw (← c.from-k.ensures) at (byte_most (ltb (get_or c.args.self.now.opened (c.loop-d.d - 1) 0) c.args.n)) in omega arith;
  same = before_again _ _ _ _ _ c.loop-d.invariant.same _ (omega arith) _ c.from-k.ensures;
}

pub returns : goal.returns
returns c = before_done _ _ _ _ _ c.loop-d.invariant.same (omega arith)
