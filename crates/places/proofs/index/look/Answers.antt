use Rattle.std.proofs.Common.{arith, refl}
use Rattle.places.proofs.KeyReturns.{keys_same}
use Rattle.places.proofs.IndexReturns.{key_found, key_on}
use Rattle.places.proofs.index.look.Goals as goal

pub returns-then-eq : goal.returns-then-eq
returns-then-eq c = key_found _ _ _ _ _ _ _ c.loop.invariant.same (omega arith) _ refl c.if-e-eq0.false _ c.at.ensures _ (keys_same c.at.result c.args.k _ c.eq.ensures) c.if-eq.true

pub loop-preserved : goal.loop-preserved
loop-preserved c = record {
  in_slots = c.next_slot-s.ensures.1;
  same = key_on _ _ _ _ _ _ _ c.loop.invariant.same (omega arith) _ refl c.if-e-eq0.false _ c.at.ensures _ (keys_same c.at.result c.args.k _ c.eq.ensures) c.if-eq.false _ _ c.next_slot-s.ensures.0 (omega arith);
}
