-- Slots: one holds 0, or one more than a key's number; a key is looked for from its slot on, round the end.
use Rattle.std.specs.Prelude.{ℕ, zero, suc, ◌+◌, Bool, List, [], ◌∷◌, get_or, ltb, if◌then◌else◌}
use Rattle.slots.specs.declared.probe.Looked.{Looked}
use Rattle.slots.specs.declared.probe.Looked.TheVariants.{Found, Empty, Full}

abbrev pub next_slot : ℕ → ℕ → ℕ
next_slot size s = if ltb (s + 1) size then s + 1 else 0

abbrev pub at_slot : ℕ → ℕ → (ℕ → Bool) → Looked → Looked
at_slot zero s test rest = Empty s
at_slot (suc e) s test rest = if test e then Found e else rest

-- the first slot of so many from s on that is empty or whose key passes the test
unfoldable pub probe : ℕ → List ℕ → (ℕ → Bool) → ℕ → ℕ → Looked
probe size t test s zero = Full
probe size t test s (suc left) = at_slot (get_or t s 0) s test (probe size t test (next_slot size s) left)

-- how many slots hold a key
unfoldable pub occupied : List ℕ → ℕ
occupied [] = 0
occupied (zero ∷ t) = occupied t
occupied (suc e ∷ t) = suc (occupied t)
