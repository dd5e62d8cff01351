use borrow.Author.Rules.{rules}
use Rattle.decode.proofs.ReadForms.{form_cases, found_of_ok, tree_ident}
use Rattle.decode.proofs.read.raw_at.Goals as goal

pub returns-then-b-next-lt1 : goal.returns-then-b-next-lt1
returns-then-b-next-lt1 c = search (rules, form_cases)

pub returns-then-head-eq1 : goal.returns-then-head-eq1
returns-then-head-eq1 c = search (rules, form_cases)

pub returns-then-head-eq1-2 : goal.returns-then-head-eq1-2
returns-then-head-eq1-2 c = tree_ident _ _ _ c.span_at.ensures _ (found_of_ok _ _ c.ok_or.ensures.ok_part c.in_ok-head.head c.in_ok-head.was) c.if-b-next-lt1.false _ c.if-head-eq1.false c.if-head-eq1-2.true c.ident_at.ensures

pub returns : goal.returns
returns c = search (rules, form_cases)
