use mathlib.Core.Path.{sym, ◌∙◌}
use Rattle.std.proofs.Common.{◌*◌, ◌<◌, ◌≤◌, arith}
use Rattle.cursor.specs.Moves.{at_of}
use Rattle.measure.proofs.CursorReturns.{rounds_over, seen_end, step_end, step_on, still_full}
use Rattle.measure.proofs.cursors.value_sum.Goals as goal

pub returns-in-Err : goal.returns-in-Err
returns-in-Err c =
    let h : c.loop-n.n < 2 * c.args.trees = omega arith in
    let x = c.loop-n.cursor in
    seen_end _ _ _ _ (at_of x) x.numbers x.counts x.places _ c.loop-n.n (2 * c.args.trees) _ c.loop-n.invariant.0 h _ (sym c.in-Err.is ∙ c.look.ensures)

pub returns-in-Err-after_step : goal.returns-in-Err-after_step
returns-in-Err-after_step c =
    let h : c.loop-n.n < 2 * c.args.trees = omega arith in
    let x = c.loop-n.cursor in
    step_end _ _ _ _ (at_of x) x.numbers x.counts x.places _ c.loop-n.n (2 * c.args.trees) _ c.loop-n.invariant.0 h _ (sym c.in-Ok.is ∙ c.look.ensures)
    c.loop-n.invariant.1 _ _ _ _ _ c.bump_or_end-next.ensures _ (sym c.in-Err-after_step.is ∙ c.after_step.ensures)

pub loop-n-preserved : goal.loop-n-preserved
loop-n-preserved c =
    let h : c.loop-n.n < 2 * c.args.trees = omega arith in
    let x = c.loop-n.cursor in (
      step_on _ _ _ _ (at_of x) x.numbers x.counts x.places _ c.loop-n.n (2 * c.args.trees) _ c.loop-n.invariant.0 h _ (sym c.in-Ok.is ∙ c.look.ensures)
          c.loop-n.invariant.1 _ _ _ _ _ c.bump_or_end-next.ensures _ (sym c.in-Ok-after_step.is ∙ c.after_step.ensures),
      still_full _ _ _ _ _ _ _ _ _ _ _ _ _ c.bump_or_end-next.ensures c.loop-n.invariant.1,
    )

pub returns : goal.returns
returns c =
    let h : 2 * c.args.trees ≤ c.loop-n.n = omega arith in
    let x = c.loop-n.cursor in
    rounds_over _ _ _ _ (at_of x) x.numbers x.counts x.places _ c.loop-n.n (2 * c.args.trees) _ c.loop-n.invariant.0 h
