use borrow.Author.Rules.{rules}
use Rattle.encode.proofs.SizeReturns.{form_cases}
use Rattle.encode.proofs.size.form_of.Goals as goal

pub returns-then-fits_brackets : goal.returns-then-fits_brackets
returns-then-fits_brackets c = search (rules, form_cases)

pub returns-then-fits_equal : goal.returns-then-fits_equal
returns-then-fits_equal c = search (rules, form_cases)

pub returns-then-fits_two_parts : goal.returns-then-fits_two_parts
returns-then-fits_two_parts c = search (rules, form_cases)

pub returns-else-fits_two_parts : goal.returns-else-fits_two_parts
returns-else-fits_two_parts c = search (rules, form_cases)
