use mathlib.Core.Path.{refl}
use Rattle.std.proofs.lemmas.Result.{err_from_is_err_and}
use Rattle.replace.proofs.FreshReturns.{parts_short, symbols_short, bytes_short, all_put}
use Rattle.replace.proofs.fresh.put_fresh.Goals as goal
use Rattle.replace.proofs.fresh.put_fresh.Goals.{then-out_parts-parts-via-then-out_parts-parts, then-out_parts-parts-via-else-out_parts-parts+then-out_symbols-symbols}

pub returns-then-out_parts-parts : goal.returns-then-out_parts-parts
returns-then-out_parts-parts c =
    elim c.then-out_parts-parts.branch [
      | then-out_parts-parts-via-then-out_parts-parts w ↦ parts_short _ _ _ _ _ _ _ c.args.own.now.tables w.if-out_parts-parts.true
      | then-out_parts-parts-via-else-out_parts-parts+then-out_symbols-symbols w ↦
          symbols_short _ _ _ _ _ _ _ c.args.own.now.tables w.if-out_parts-parts.false w.if-out_symbols-symbols.true
    ]

pub returns-in_err-bytes : goal.returns-in_err-bytes
returns-in_err-bytes c =
    let p = err_from_is_err_and c.from_residual.result c.from_residual.ensures.1 in
    rw (p.1, p.2)
    (bytes_short _ _ _ _ _ _ _ c.args.own.now.tables c.if-out_parts-parts.false c.if-out_symbols-symbols.false c.requires _ _ _ c.in_err-bytes.ensures _ refl)

pub returns : goal.returns
returns c =
    all_put _ _ _ _ _ _ _ c.args.own.now.tables c.if-out_parts-parts.false c.if-out_symbols-symbols.false c.requires _ _ _ c.in_ok-bytes.ensures _ refl
    _ _ c.put_words.ensures c.put_words-2.ensures
