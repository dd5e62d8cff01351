-- What the answer is worth to a caller.
use Prim.Native.Nat.{ℕ, ◌+◌, ◌*◌, ◌<◌, ◌≤◌}
use mathlib.Core.Bool.{Bool, true, false, not}
use mathlib.Core.Path.{◌≡◌, sym, ◌∙◌}
use borrow.Author.Tests.{le-leb, lt-leb, leb-true, not-false}
use lib.Dec.{leb}
use Rattle.format.specs.Unpack.{list_work, table_work, count_work, work_fits}
use Rattle.format.proofs.Each.{and₃}

pub work_ample : (k a c d : ℕ) (u : Bool) → u ≡ work_fits k a c d → not u ≡ false → (list_work k ≤ a) × (table_work k ≤ c) × (count_work k ≤ d)
work_ample k a c d u g f =
    let j = and₃ (leb (list_work k) a) (leb (table_work k) c) (leb (count_work k) d) (sym g ∙ not-false u f) in
    (leb-true _ _ j.0, leb-true _ _ j.1, leb-true _ _ j.2)
