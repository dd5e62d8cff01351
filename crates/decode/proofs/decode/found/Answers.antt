use borrow.Author.Rules.{rules}
use Rattle.decode.proofs.DecodeReturns.{found_cases, punct_part, symbol_part_lem, symbol_symbol, open_part_lem, close_part_lem}
use Rattle.decode.proofs.decode.found.Goals as goal

pub returns-in_err-punct_row-in-Punct : goal.returns-in_err-punct_row-in-Punct
returns-in_err-punct_row-in-Punct c = search (rules, found_cases)

pub punct_from-requires : goal.punct_from-requires
punct_from-requires c = (search (rules, punct_part), search (rules, found_cases))

pub returns-in_err-symbol_row-in-Ident : goal.returns-in_err-symbol_row-in-Ident
returns-in_err-symbol_row-in-Ident c = search (rules, found_cases)

pub ident_from-requires : goal.ident_from-requires
ident_from-requires c = (search (rules, symbol_part_lem), search (rules, symbol_symbol), search (rules, found_cases))

pub returns-in_err-symbol_row-in-Literal : goal.returns-in_err-symbol_row-in-Literal
returns-in_err-symbol_row-in-Literal c = search (rules, found_cases)

pub literal_from-requires : goal.literal_from-requires
literal_from-requires c = (search (rules, symbol_part_lem), search (rules, symbol_symbol), search (rules, found_cases))

pub returns-in_err-subtree_row-in-Subtree : goal.returns-in_err-subtree_row-in-Subtree
returns-in_err-subtree_row-in-Subtree c = search (rules, found_cases)

pub subtree_from-subtree-requires : goal.subtree_from-subtree-requires
subtree_from-subtree-requires c = search (rules, found_cases)

pub subtree_from-subtree-requires-else-n-eq0 : goal.subtree_from-subtree-requires-else-n-eq0
subtree_from-subtree-requires-else-n-eq0 c = (search (rules, open_part_lem), search (rules, close_part_lem), search (rules, found_cases))

pub returns-in_ok-punct_row-in-Punct : goal.returns-in_ok-punct_row-in-Punct
returns-in_ok-punct_row-in-Punct c = search (rules, found_cases)

pub returns-in_ok-symbol_row-in-Ident : goal.returns-in_ok-symbol_row-in-Ident
returns-in_ok-symbol_row-in-Ident c = search (rules, found_cases)

pub returns-in_ok-symbol_row-in-Literal : goal.returns-in_ok-symbol_row-in-Literal
returns-in_ok-symbol_row-in-Literal c = search (rules, found_cases)

pub returns-then-n-eq0 : goal.returns-then-n-eq0
returns-then-n-eq0 c = search (rules, found_cases)

pub returns-else-n-eq0 : goal.returns-else-n-eq0
returns-else-n-eq0 c = search (rules, found_cases)
