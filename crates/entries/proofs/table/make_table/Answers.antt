use Rattle.entries.proofs.LargeReturns.{made_fits}
use Rattle.entries.proofs.table.make_table.Goals as goal

pub returns-in-Some-clause-upper_bound : goal.returns-in-Some-clause-upper_bound
returns-in-Some-clause-upper_bound c = made_fits _ _ _ c.args.keys.now.few _ _ _ _ c.in-Some.ensures

pub returns-in-Some-table_in-clause-upper_bound : goal.returns-in-Some-table_in-clause-upper_bound
returns-in-Some-table_in-clause-upper_bound c = made_fits _ _ _ c.args.keys.now.few _ _ _ _ c.in-Some-table_in.ensures

pub returns-in-Some-table_in-2-clause-upper_bound : goal.returns-in-Some-table_in-2-clause-upper_bound
returns-in-Some-table_in-2-clause-upper_bound c = made_fits _ _ _ c.args.keys.now.few _ _ _ _ c.in-Some-table_in-2.ensures

pub returns-clause-upper_bound : goal.returns-clause-upper_bound
returns-clause-upper_bound c = made_fits _ _ _ c.args.keys.now.few _ _ _ _ c.large.ensures
