use Prim.Native.Nat.{◌-◌, ◌≤◌}
use mathlib.Core.Path.{◌≡◌}
use Rattle.format.specs.WordList.{list_count}
use Rattle.passes.specs.Tail.{five_from}
use Rattle.passes.specs.Run.{Ready, Kept}
use Rattle.passes.specs.Runs.{mode_by}
use Rattle.passes.proofs.five.row_five.Given as goal

abbrev pub invariant-loop-n : goal.invariant-loop-n
invariant-loop-n l =
    (1 ≤ l.n) × (five_from (mode_by l.tables) l.l 1 ≡ five_from (mode_by l.tables) l.l l.n) × Ready l.tables l.part_slots l.symbol_slots l.opens l.closes l.syms × Kept l.part_slots l.symbol_slots l.opens l.closes l.syms l.initial.part_slots l.initial.symbol_slots l.initial.opens l.initial.closes l.initial.syms

abbrev pub decreases-loop-n : goal.decreases-loop-n
decreases-loop-n l = list_count l.l - l.n
