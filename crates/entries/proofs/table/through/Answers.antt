use borrow.Author.Rules.{rules}
use Rattle.entries.proofs.TableReturns.{through_cases, through_filled}
use Rattle.entries.proofs.table.through.Goals as goal

pub gather-requires : goal.gather-requires
gather-requires c = search (rules, through_cases)

pub finish-requires : goal.finish-requires
finish-requires c = record {
  p_bound = search (rules, through_cases);
  p_in_bounds = search (rules, through_cases);
  filled = through_filled _ _ _ _ _ _ _ _ c.in_ok-p.ensures.1 c.gather.auto.table;
  room = search (rules, through_cases);
}

pub returns : goal.returns
returns c = search (rules, through_cases)
