use mathlib.Core.Path.{refl}
use borrow.Author.Rules.{rules}
use Rattle.std.proofs.lemmas.Result.{err_from_is_err_and}
use Rattle.writer.proofs.EncodeReturns.{built_cases, five_refused}
use Rattle.writer.proofs.write.write_built.Goals as goal

pub write_passed-requires-clause-passed : goal.write_passed-requires-clause-passed
write_passed-requires-clause-passed c = search (rules, built_cases)

pub returns-in_err-row_five : goal.returns-in_err-row_five
returns-in_err-row_five c =
    let p = err_from_is_err_and c.from_residual.result c.from_residual.ensures.1 in
    rw (p.1, p.2) (five_refused _ _ c.requires.ruled _ c.in_err-row_five.ensures.value _ refl _ _)
