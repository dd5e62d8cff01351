use Prim.Native.Nat.{◌-◌}
use mathlib.Core.Path.{◌≡◌}
use Rattle.format.specs.Buffer.{own_reader}
use Rattle.walk.specs.Walk.{walk_of, call_of}
use Rattle.measure.specs.Sum.{walk_sum}
use Rattle.measure.proofs.walks.walk_sum.Given as goal

abbrev pub invariant-loop-n : goal.invariant-loop-n
invariant-loop-n l =
    walk_sum (own_reader l.b l.trees l.parts l.symbols) (call_of l.skip) l.trees (walk_of l.initial.walk) 0
    ≡ walk_sum (own_reader l.b l.trees l.parts l.symbols) (call_of l.skip) (l.trees - l.n) (walk_of l.walk) l.sum
