use mathlib.Core.Path.{refl}
use borrow.Author.Rules.{rules}
use Rattle.std.proofs.lemmas.Result.{err_from_is_err_and}
use Rattle.writer.proofs.EncodeReturns.{list_cases, rules_refused, written_list}
use Rattle.writer.proofs.write.encode_list.Goals as goal

pub returns-then-not-list_sized : goal.returns-then-not-list_sized
returns-then-not-list_sized c = search (rules, list_cases)

pub returns-then-not-tables_sized : goal.returns-then-not-tables_sized
returns-then-not-tables_sized c = search (rules, list_cases)

pub write_own-requires-clause-l_value : goal.write_own-requires-clause-l_value
write_own-requires-clause-l_value c = search (rules, list_cases)

pub returns : goal.returns
returns c = written_list _ _ c.in_ok-list_rules.ensures refl _ _ _ _ _ _ _ c.write_own.ensures

pub returns-in_err-list_rules : goal.returns-in_err-list_rules
returns-in_err-list_rules c =
    let p = err_from_is_err_and c.from_residual.result c.from_residual.ensures.1 in
    rw (p.1, p.2) (rules_refused _ _ _ _ c.list_sized.ensures (search rules) _ c.tables_sized.ensures (search rules) _ c.in_err-list_rules.ensures _ refl _ _)
