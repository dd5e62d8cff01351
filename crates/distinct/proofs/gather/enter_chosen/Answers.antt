use mathlib.Core.Path.{refl}
use native.Mathlib.Omega.{arith}
use borrow.Author.Rules.{rules}
use Rattle.distinct.proofs.SelectReturns.{chosen_cases, chosen_live, chosen_filled, chosen_again}
use Rattle.distinct.proofs.gather.enter_chosen.Goals as goal

pub loop-j-init : goal.loop-j-init
loop-j-init c = search (rules, chosen_cases)

pub offset_bounds-chosen-j : goal.offset_bounds-chosen-j
offset_bounds-chosen-j c = search (rules, chosen_cases)

pub bounds-chosen-j : goal.bounds-chosen-j
bounds-chosen-j c = search (rules, chosen_cases)

pub enter_key-requires-clause-v_bound : goal.enter_key-requires-clause-v_bound
enter_key-requires-clause-v_bound c = search (rules, chosen_cases)

pub loop-j-preserved : goal.loop-j-preserved
loop-j-preserved c = (omega (arith, c.in_ok-k.ensures.0), search (rules, chosen_again, c.in_ok-k.ensures.1))

pub returns : goal.returns
returns c = search (rules, chosen_cases)

pub enter_key-requires-clause-filled : goal.enter_key-requires-clause-filled
enter_key-requires-clause-filled c = chosen_filled _ _ _ _ _ _ _ _ c.requires.chosen.1 _ c.loop-j-test.true _ refl _ _ _ _ _ _ c.loop-j.invariant.1 c.loop-j.auto.table

pub enter_key-requires-clause-v_value : goal.enter_key-requires-clause-v_value
enter_key-requires-clause-v_value c = chosen_live _ _ _ _ _ _ _ _ c.requires.chosen.1 _ c.loop-j-test.true _ refl
