use borrow.Author.Rules.{rules}
use Rattle.encode.proofs.EncodeForms.{subtree_form_cases}
use Rattle.encode.proofs.encode.put_subtree.Goals as goal

pub put_brackets-requires : goal.put_brackets-requires
put_brackets-requires c = search (rules, subtree_form_cases)

pub put_equal-requires : goal.put_equal-requires
put_equal-requires c = search (rules, subtree_form_cases)

pub put_two_parts-requires : goal.put_two_parts-requires
put_two_parts-requires c = search (rules, subtree_form_cases)

pub put_apart-requires : goal.put_apart-requires
put_apart-requires c = search (rules, subtree_form_cases)

pub returns-in-Brackets : goal.returns-in-Brackets
returns-in-Brackets c = search (rules, subtree_form_cases)

pub returns-in-Equal : goal.returns-in-Equal
returns-in-Equal c = search (rules, subtree_form_cases)

pub returns-in-TwoParts : goal.returns-in-TwoParts
returns-in-TwoParts c = search (rules, subtree_form_cases)

pub returns-in-Apart : goal.returns-in-Apart
returns-in-Apart c = search (rules, subtree_form_cases)
