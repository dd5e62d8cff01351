use Prim.Native.Nat.{◌*◌, ◌-◌}
use mathlib.Core.Path.{◌≡◌}
use Rattle.format.specs.Cursor.{fresh_cursor}
use Rattle.format.specs.Buffer.{own_reader}
use Rattle.cursor.specs.Open.{cursor_of}
use Rattle.cursor.specs.Moves.{at_of, Arrays}
use Rattle.measure.specs.Sum.{cursor_sum}
use Rattle.measure.proofs.cursors.value_sum.Given as goal

abbrev pub invariant-loop-n : goal.invariant-loop-n
invariant-loop-n l =
    (cursor_sum (own_reader l.b l.trees l.parts l.symbols) l.trees (2 * l.trees) fresh_cursor 0
    ≡ cursor_sum (own_reader l.b l.trees l.parts l.symbols) l.trees (2 * l.trees - l.n) (cursor_of (at_of l.cursor) l.cursor.numbers l.cursor.counts l.cursor.places) l.sum)
    × Arrays l.cursor.numbers l.cursor.counts l.cursor.places
