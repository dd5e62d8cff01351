use Rattle.keys.specs.Keys.{live_in}
use Rattle.distinct.specs.Select.{Selected}
use Rattle.distinct.proofs.select.select_each.Given as goal

abbrev pub invariant-loop-v : goal.invariant-loop-v
invariant-loop-v l = Selected (live_in l.keys.list.now l.keys.symbols l.classes l.class) l.from l.v l.m l.chosen
