use borrow.Author.Rules.{rules}
use Rattle.reference.proofs.PackReturns.{pack_form_cases}
use Rattle.reference.proofs.span.pack_form.Goals as goal

pub returns-then-is_below : goal.returns-then-is_below
returns-then-is_below c = search (rules, pack_form_cases)

pub returns-then-is_below-2 : goal.returns-then-is_below-2
returns-then-is_below-2 c = search (rules, pack_form_cases)

pub returns : goal.returns
returns c = search (rules, pack_form_cases)
