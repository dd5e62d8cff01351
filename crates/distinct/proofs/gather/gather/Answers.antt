use Prim.Native.Nat.{◌+◌, ◌≤◌}
use native.Mathlib.Omega.{arith}
use borrow.Author.Rules.{rules}
use Rattle.distinct.proofs.SelectReturns.{all_cases, stretch_most}
use Rattle.distinct.proofs.GatherReturns.{gather_cases}
use Rattle.distinct.proofs.gather.gather.Goals as goal

pub tree_count-trees-requires : goal.tree_count-trees-requires
tree_count-trees-requires c = search (rules, all_cases, gather_cases)

pub loop-t-init : goal.loop-t-init
loop-t-init c = search (rules, all_cases, gather_cases)

pub enter_stretch-requires-clause-t_le_end : goal.enter_stretch-requires-clause-t_le_end
enter_stretch-requires-clause-t_le_end c =
    let h : c.loop-t.t + c.min.result ≤ c.tree_count-trees.result = omega arith in
    (omega arith, omega arith, stretch_most _ _ _ _ c.count.ensures c.tree_count-trees.ensures _ h)

pub loop-t-preserved : goal.loop-t-preserved
loop-t-preserved c = search (rules, all_cases, gather_cases)

pub returns : goal.returns
returns c = search (rules, all_cases, gather_cases)

pub enter_stretch-requires-clause-filled : goal.enter_stretch-requires-clause-filled
enter_stretch-requires-clause-filled c = search (rules, all_cases, gather_cases)
