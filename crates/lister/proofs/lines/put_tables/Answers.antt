use borrow.Author.Rules.{rules}
use Rattle.lister.proofs.LinesReturns.{line_cases}
use Rattle.lister.proofs.lines.put_tables.Goals as goal

pub returns : goal.returns
returns c = search (rules, line_cases)
