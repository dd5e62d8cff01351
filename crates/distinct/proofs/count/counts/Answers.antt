use Rattle.distinct.proofs.CountReturns.{class_all}
use Rattle.distinct.proofs.count.counts.Goals as goal

pub returns-in-Some : goal.returns-in-Some
returns-in-Some c = class_all _ _ _ c.in-Some.ensures

pub returns-in-Some-count_in : goal.returns-in-Some-count_in
returns-in-Some-count_in c = class_all _ _ _ c.in-Some-count_in.ensures

pub returns-in-Some-count_in-2 : goal.returns-in-Some-count_in-2
returns-in-Some-count_in-2 c = class_all _ _ _ c.in-Some-count_in-2.ensures
