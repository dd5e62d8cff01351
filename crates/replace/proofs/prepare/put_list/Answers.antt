use borrow.Author.Rules.{rules}
use Rattle.replace.proofs.PrepareReturns.{list_cases}
use Rattle.replace.proofs.prepare.put_list.Goals as goal

pub unpack-requires : goal.unpack-requires
unpack-requires c = search (rules, list_cases)

pub place-requires : goal.place-requires
place-requires c = search (rules, list_cases)

pub overflow_mul-place : goal.overflow_mul-place
overflow_mul-place c = search (rules, list_cases)

pub put_words-requires : goal.put_words-requires
put_words-requires c = search (rules, list_cases)

pub returns : goal.returns
returns c = search (rules, list_cases)
