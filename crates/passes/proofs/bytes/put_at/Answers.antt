use borrow.Author.Rules.{rules}
use Rattle.passes.proofs.BytesReturns.{put_at_cases}
use Rattle.passes.proofs.bytes.put_at.Goals as goal

pub begin_of-at-requires : goal.begin_of-at-requires
begin_of-at-requires c = search (rules, put_at_cases)

pub children_of-children-requires : goal.children_of-children-requires
children_of-children-requires c = search (rules, put_at_cases)

pub put_listed-requires-clause-children_value : goal.put_listed-requires-clause-children_value
put_listed-requires-clause-children_value c = search (rules, put_at_cases)

pub returns : goal.returns
returns c = search (rules, put_at_cases)
