use borrow.Author.Rules.{rules}
use Rattle.encode.proofs.EncodePut.{piece_cases}
use Rattle.encode.proofs.encode.put_three.Goals as goal

pub returns : goal.returns
returns c = search (rules, piece_cases)
