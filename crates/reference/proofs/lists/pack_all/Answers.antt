use borrow.Author.Rules.{rules}
use Rattle.reference.proofs.ListReturns.{pack_all_cases}
use Rattle.reference.proofs.lists.pack_all.Goals as goal

pub returns-in-Err : goal.returns-in-Err
returns-in-Err g c = search (rules, pack_all_cases)

pub overflow_add-place : goal.overflow_add-place
overflow_add-place g c = search (rules, pack_all_cases)

pub loop-j-preserved : goal.loop-j-preserved
loop-j-preserved g c = search (rules, pack_all_cases)

pub returns : goal.returns
returns g c = search (rules, pack_all_cases)
