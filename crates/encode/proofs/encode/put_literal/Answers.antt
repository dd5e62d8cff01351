use borrow.Author.Rules.{rules}
use Rattle.encode.proofs.EncodeForms.{leaf_form_cases}
use Rattle.encode.proofs.encode.put_literal.Goals as goal

pub put_short-requires : goal.put_short-requires
put_short-requires c = search (rules, leaf_form_cases)

pub put_raw-requires : goal.put_raw-requires
put_raw-requires c = search (rules, leaf_form_cases)

pub put_long-requires : goal.put_long-requires
put_long-requires c = search (rules, leaf_form_cases)

pub returns-then-is_short : goal.returns-then-is_short
returns-then-is_short c = search (rules, leaf_form_cases)

pub returns-then-is_raw_kind : goal.returns-then-is_raw_kind
returns-then-is_raw_kind c = search (rules, leaf_form_cases)

pub returns-else-is_raw_kind : goal.returns-else-is_raw_kind
returns-else-is_raw_kind c = search (rules, leaf_form_cases)
