use borrow.Author.Rules.{rules}
use Rattle.encode.proofs.EncodeForms.{leaf_form_cases}
use Rattle.encode.proofs.encode.put_punct.Goals as goal

pub put_ascii-requires : goal.put_ascii-requires
put_ascii-requires c = search (rules, leaf_form_cases)

pub put_other-requires : goal.put_other-requires
put_other-requires c = search (rules, leaf_form_cases)

pub returns-then-p-lt-ASCII : goal.returns-then-p-lt-ASCII
returns-then-p-lt-ASCII c = search (rules, leaf_form_cases)

pub returns-else-p-lt-ASCII : goal.returns-else-p-lt-ASCII
returns-else-p-lt-ASCII c = search (rules, leaf_form_cases)
