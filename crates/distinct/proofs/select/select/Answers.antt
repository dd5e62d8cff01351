use native.Mathlib.Omega.{arith}
use borrow.Author.Rules.{rules}
use Rattle.distinct.proofs.SelectReturns.{select_cases, number_fits}
use Rattle.distinct.proofs.select.select.Goals as goal

pub number-from-requires : goal.number-from-requires
number-from-requires c = number_fits _ _ _ _ c.requires.t_le_end.0 c.requires.t_le_end.1 c.args.keys.now.few

pub number-to-requires : goal.number-to-requires
number-to-requires c = number_fits _ _ _ _ (omega arith) c.requires.t_le_end.1 c.args.keys.now.few

pub select_each-requires-clause-from_le_to : goal.select_each-requires-clause-from_le_to
select_each-requires-clause-from_le_to c = search (rules, select_cases)

pub select_each-requires-clause-to_bound : goal.select_each-requires-clause-to_bound
select_each-requires-clause-to_bound c = search (rules, select_cases)

pub select_each-requires-then-keys-clause-from_le_to : goal.select_each-requires-then-keys-clause-from_le_to
select_each-requires-then-keys-clause-from_le_to c = search (rules, select_cases)

pub returns-then-keys : goal.returns-then-keys
returns-then-keys c = search (rules, select_cases)

pub select_parts-requires-clause-t_le_end : goal.select_parts-requires-clause-t_le_end
select_parts-requires-clause-t_le_end c = search (rules, select_cases)

pub returns : goal.returns
returns c = search (rules, select_cases)
