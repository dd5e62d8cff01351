use borrow.Author.Rules.{rules}
use Rattle.entries.proofs.TableReturns.{finish_cases}
use Rattle.entries.proofs.table.finish.Goals as goal

pub limit_of-requires : goal.limit_of-requires
limit_of-requires c = search (rules, finish_cases)

pub arrange-requires : goal.arrange-requires
arrange-requires c = search (rules, finish_cases)

pub emit-requires : goal.emit-requires
emit-requires c = search (rules, finish_cases)

pub returns : goal.returns
returns c = search (rules, finish_cases)
