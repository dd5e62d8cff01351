use Prim.Native.Nat.{◌-◌, ◌/◌, ◌≤◌}
use mathlib.Core.Path.{◌≡◌}
use lib.ListN.{length}
use Rattle.reference.specs.Lists.{span_numbers, packed_from}
use Rattle.reference.proofs.lists.pack_all.Given as goal

abbrev pub invariant-loop-j : goal.invariant-loop-j
invariant-loop-j g l =
    (packed_from l.heavy l.extra l.spans (length l.spans / span_numbers) 0 l.initial.out l.at ≡ packed_from l.heavy l.extra l.spans (length l.spans / span_numbers - l.j) l.j l.out l.place) × (l.at ≤ l.place)
