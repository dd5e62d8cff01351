use Prim.Native.Nat.{◌≤◌}
use Rattle.format.specs.WordList.{list_count}
use Rattle.passes.specs.Run.{Ready, Kept, Sized, Beyond}
use Rattle.passes.specs.Runs.{mode_by}
use Rattle.passes.proofs.sizes.size_all.Given as goal

abbrev pub invariant-loop-n : goal.invariant-loop-n
invariant-loop-n l =
    (1 ≤ l.n) × (l.n ≤ list_count l.l) × Sized (mode_by l.tables) l.l l.n l.work × Beyond l.l l.work l.initial.work × Ready l.tables l.part_slots l.symbol_slots l.opens l.closes l.syms × Kept l.part_slots l.symbol_slots l.opens l.closes l.syms l.initial.part_slots l.initial.symbol_slots l.initial.opens l.initial.closes l.initial.syms

abbrev pub decreases-loop-n : goal.decreases-loop-n
decreases-loop-n l = l.n
