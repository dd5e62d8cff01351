use borrow.Author.Rules.{rules}
use Rattle.decode.proofs.DecodeReturns.{decode_cases}
use Rattle.decode.proofs.decode.decode_in.Goals as goal

pub returns-in_err-here : goal.returns-in_err-here
returns-in_err-here c = search (rules, decode_cases)

pub found-requires : goal.found-requires
found-requires c = search (rules, decode_cases)

pub returns : goal.returns
returns c = search (rules, decode_cases)
