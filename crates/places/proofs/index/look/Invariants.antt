use Rattle.std.proofs.Common.{◌≡◌, ◌-◌, ◌<◌, length}
use Rattle.slots.specs.Probe.{probe}
use Rattle.places.specs.Key.{part_of, is_key}
use Rattle.places.specs.Keys.{keys_of}
use Rattle.places.proofs.index.look.Given as goal

abbrev pub invariant-loop : goal.invariant-loop
invariant-loop l = record {
  in_slots : l.s < length l.slots;
  same : probe (length l.slots) l.slots (is_key (keys_of l.keys) (part_of l.k)) l.start (length l.slots) ≡ probe (length l.slots) l.slots (is_key (keys_of l.keys) (part_of l.k)) l.s (length l.slots - l.counter);
}
