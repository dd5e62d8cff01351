use borrow.Author.Rules.{rules}
use Rattle.decode.proofs.ReadForms.{form_cases}
use Rattle.decode.proofs.read.form_101.Goals as goal

pub returns : goal.returns
returns c = search (rules, form_cases)
