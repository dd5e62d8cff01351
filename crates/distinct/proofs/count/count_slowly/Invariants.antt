use Rattle.distinct.proofs.CountReturns.{news_length}
use mathlib.Core.Path.{◌≡◌}
use Prim.Native.Nat.{◌≤◌}
use Rattle.distinct.proofs.count.count_slowly.Given as goal

abbrev pub invariant-loop-v : goal.invariant-loop-v
invariant-loop-v l = (l.p ≤ l.v) × (l.p ≡ news_length l.keys.list.now l.keys.symbols l.v)
