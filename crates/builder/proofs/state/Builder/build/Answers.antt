use Rattle.std.proofs.Common.{refl, []}
use Rattle.std.proofs.lemmas.Result.{err_from_is_err_and}
use Rattle.builder.proofs.BuildReturns.{build_refused, ready_room, build_made, front_length}
use Rattle.builder.proofs.state.Builder.build.Goals as goal

pub returns-in_err-ready : goal.returns-in_err-ready
returns-in_err-ready c =
    let p = err_from_is_err_and c.from_residual.result c.from_residual.ensures.1 in
    rw (p.1, p.2) (build_refused _ _ _ _ _ _ _ c.ready.ensures _ c.in_err-ready.was)

pub slice_bounds-encode_holding-end : goal.slice_bounds-encode_holding-end
slice_bounds-encode_holding-end c = front_length _ _ (ready_room c.args.self c.args.list.now [] [] [] [] _ c.ready.ensures c.in_ok-ready.was _ refl)

pub returns : goal.returns
returns c = build_made _ _ _ _ _ _ _ c.ready.ensures c.in_ok-ready.was _ refl _ _ _ c.encode_holding.ensures
