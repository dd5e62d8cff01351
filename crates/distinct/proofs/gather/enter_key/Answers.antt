use native.Mathlib.Omega.{arith}
use borrow.Author.Rules.{rules}
use Rattle.distinct.proofs.GatherReturns.{enter_cases}
use Rattle.distinct.proofs.gather.enter_key.Goals as goal

pub slot-start-requires : goal.slot-start-requires
slot-start-requires c = search (rules, enter_cases)

pub look-requires : goal.look-requires
look-requires c = search (rules, enter_cases)

pub enum_known-e : goal.enum_known-e
enum_known-e c = search (rules, enter_cases)

pub raise-requires : goal.raise-requires
raise-requires c = search (rules, enter_cases)

pub enum_known-s : goal.enum_known-s
enum_known-s c = search (rules, enter_cases)

pub join-requires : goal.join-requires
join-requires c = search (rules, enter_cases)

pub enum_told-1 : goal.enum_told-1
enum_told-1 c = search (rules, enter_cases)

pub returns-in-Found : goal.returns-in-Found
returns-in-Found c = search (rules, enter_cases)

pub returns-in-Full : goal.returns-in-Full
returns-in-Full c = search (rules, enter_cases)

pub returns-else-p-firsts : goal.returns-else-p-firsts
returns-else-p-firsts c = (omega arith, search (rules, enter_cases))
