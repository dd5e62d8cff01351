use mathlib.Core.Path.{◌≡◌}
use Rattle.tree.specs.Tables.{mode_in}
use Rattle.walk.specs.Walk.{walk_of}
use Rattle.walk.specs.Last.{last_in}
use Rattle.walk.proofs.last_span.last_in.Given as goal

abbrev pub invariant-loop-found : goal.invariant-loop-found
invariant-loop-found l =
    let B = l.buffer in
    let rest = last_in B.bytes.now B.trees (mode_in B.tables) in
    rest (walk_of l.initial.here) ≡ rest (walk_of l.here)

abbrev pub decreases-loop-found : goal.decreases-loop-found
decreases-loop-found l = l.here.left
