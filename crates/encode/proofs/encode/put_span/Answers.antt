use borrow.Author.Rules.{rules}
use Rattle.encode.proofs.EncodePut.{piece_cases}
use Rattle.encode.proofs.encode.put_span.Goals as goal

pub returns-in_default : goal.returns-in_default
returns-in_default c = search (rules, piece_cases)

pub overflow_add-result : goal.overflow_add-result
overflow_add-result c = search (rules, piece_cases)

pub returns : goal.returns
returns c = search (rules, piece_cases)
