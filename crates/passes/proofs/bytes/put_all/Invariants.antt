use Prim.Native.Nat.{◌-◌, ◌≤◌}
use Rattle.passes.specs.Run.{Ready, Kept, Advanced}
use Rattle.format.specs.Builder.{holding_all}
use Rattle.passes.specs.Runs.{mode_by}
use Rattle.passes.proofs.bytes.put_all.Given as goal

abbrev pub invariant-loop-n : goal.invariant-loop-n
invariant-loop-n l =
    (1 ≤ l.n) × (l.n ≤ l.count) × Advanced (mode_by l.tables) (holding_all l.l) 1 l.n l.initial.out l.out × Ready l.tables l.part_slots l.symbol_slots l.opens l.closes l.syms × Kept l.part_slots l.symbol_slots l.opens l.closes l.syms l.initial.part_slots l.initial.symbol_slots l.initial.opens l.initial.closes l.initial.syms

abbrev pub decreases-loop-n : goal.decreases-loop-n
decreases-loop-n l = l.count - l.n
