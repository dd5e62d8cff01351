use mathlib.Core.Bool.{not}
use mathlib.Core.Path.{refl, ap}
use Rattle.std.proofs.lemmas.Result.{err_from_is_err_and}
use Rattle.replace.proofs.JudgeReturns.{check_passed, check_refused, number_10, leaf_2, leaf_passed}
use Rattle.replace.proofs.judge.replace_verdict.Goals as goal

pub is_leaf-requires : goal.is_leaf-requires
is_leaf-requires c = check_passed _ _ _ _ c.args.change.now.number c.args.change.now.leaf.now _ c.in_ok-check_buffer.ensures refl

pub returns-in_err-check_buffer : goal.returns-in_err-check_buffer
returns-in_err-check_buffer c =
    let p = err_from_is_err_and c.from_residual.result c.from_residual.ensures.1 in
    rw (p.1, p.2) (check_refused _ _ _ _ _ _ _ _ c.in_err-check_buffer.ensures refl)

pub returns-then-not-is_leaf : goal.returns-then-not-is_leaf
returns-then-not-is_leaf c = number_10 _ _ _ _ _ _ (check_passed _ _ _ _ c.args.change.now.number c.args.change.now.leaf.now _ c.in_ok-check_buffer.ensures refl) _ c.is_leaf.ensures (ap not c.if-not-is_leaf.true) _ c.refused.ensures

pub returns-then-not-words_fit : goal.returns-then-not-words_fit
returns-then-not-words_fit c = leaf_2 _ _ _ _ _ _ (check_passed _ _ _ _ c.args.change.now.number c.args.change.now.leaf.now _ c.in_ok-check_buffer.ensures refl) _ c.is_leaf.ensures (ap not c.if-not-is_leaf.false) _ c.words_fit.ensures (ap not c.if-not-words_fit.true) _ c.refused-then-not-words_fit.ensures

pub returns : goal.returns
returns c = leaf_passed _ _ _ _ _ _ (check_passed _ _ _ _ c.args.change.now.number c.args.change.now.leaf.now _ c.in_ok-check_buffer.ensures refl) _ c.is_leaf.ensures (ap not c.if-not-is_leaf.false) _ c.words_fit.ensures (ap not c.if-not-words_fit.false)
