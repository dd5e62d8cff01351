use borrow.Author.Rules.{rules}
use Rattle.lister.proofs.LinesReturns.{field_cases}
use Rattle.lister.proofs.lines.put_count.Goals as goal

pub returns : goal.returns
returns c = search (rules, field_cases)
