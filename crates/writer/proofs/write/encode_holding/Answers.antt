use mathlib.Core.Path.{refl}
use borrow.Author.Rules.{rules}
use Rattle.std.proofs.lemmas.Result.{err_from_is_err_and}
use Rattle.writer.proofs.EncodeReturns.{held_cases, held_refused}
use Rattle.writer.proofs.write.encode_holding.Goals as goal

pub returns-then-not-list_sized : goal.returns-then-not-list_sized
returns-then-not-list_sized c = search (rules, held_cases)

pub returns-then-not-tables_sized : goal.returns-then-not-tables_sized
returns-then-not-tables_sized c = search (rules, held_cases)

pub write_own-requires-clause-l_value : goal.write_own-requires-clause-l_value
write_own-requires-clause-l_value c = search (rules, held_cases)

pub returns-in_err-list_rules_holding : goal.returns-in_err-list_rules_holding
returns-in_err-list_rules_holding c =
    let p = err_from_is_err_and c.from_residual.result c.from_residual.ensures.1 in
    rw (p.1, p.2) (held_refused _ _ _ _ c.list_sized.ensures (search rules) _ c.tables_sized.ensures (search rules) _ c.in_err-list_rules_holding.ensures _ refl _ _)
