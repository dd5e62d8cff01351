use borrow.Author.Rules.{rules}
use Rattle.text.proofs.TextReturns.{decimal_cases}
use Rattle.text.proofs.+put_decimal.Goals as goal

pub returns-then-n-lt10 : goal.returns-then-n-lt10
returns-then-n-lt10 t c = search (rules, decimal_cases)

pub returns : goal.returns
returns t c = search (rules, decimal_cases)
