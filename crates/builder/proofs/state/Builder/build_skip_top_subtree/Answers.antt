use Rattle.std.proofs.Common.{refl, []}
use Rattle.std.proofs.lemmas.Result.{err_from_is_err_and}
use Rattle.builder.proofs.BuildReturns.{skip_refused, ready_end, ready_room, skip_inner, skip_whole, inner_written}
use Rattle.builder.proofs.state.Builder.build_skip_top_subtree.Goals as goal

pub returns-in_err-ready : goal.returns-in_err-ready
returns-in_err-ready c =
    let p = err_from_is_err_and c.from_residual.result c.from_residual.ensures.1 in
    rw (p.1, p.2) (skip_refused _ _ _ _ _ _ _ c.ready.ensures _ c.in_err-ready.was)

pub returns-then-one_inside : goal.returns-then-one_inside
returns-then-one_inside c =
    skip_inner _ _ _ _ _ _ _ c.ready.ensures c.in_ok-ready.was _ refl _ _ _ _ c.one_inside.ensures c.if-one_inside.true
    (inner_written _ _ (ready_end c.args.self c.args.list.now [] [] [] [] _ c.ready.ensures c.in_ok-ready.was _ refl) (ready_room c.args.self c.args.list.now [] [] [] [] _ c.ready.ensures c.in_ok-ready.was _ refl) _ _ _ _ _ _ _ c.encode_list.ensures)

pub returns-else-one_inside : goal.returns-else-one_inside
returns-else-one_inside c = skip_whole _ _ _ _ _ _ _ c.ready.ensures c.in_ok-ready.was _ refl _ _ _ _ c.one_inside.ensures c.if-one_inside.false c.encode_holding.ensures
