-- A hash index of keys: of those that are alike the first is entered.
use Rattle.std.specs.Prelude.{ℕ, ◌+◌, ◌-◌, ◌/◌, ◌<◌, ◌≤◌, ◌≡◌, List, length, get_or, eqb, Option, Some, None}
use Rattle.format.specs.Part.{Part}
use Rattle.format.specs.Writer.{find}
use Rattle.places.specs.Key.{is_key, key_at, key_count, shift}
use Rattle.places.specs.declared.key.Layout.{Layout}
use Rattle.slots.specs.Hash.{mix_of}
use Rattle.slots.specs.Probe.{probe, occupied}
use Rattle.slots.specs.declared.probe.Looked.{Looked}
use Rattle.slots.specs.declared.probe.Looked.TheVariants.{Found}

-- the slot where a key is looked for first
unfoldable pub slot_of : Part → ℕ → ℕ
slot_of k size = mix_of k.file k.ast k.context size

-- the search for a key, from a slot on
abbrev pub probe_for : (ℕ → Part) → Part → List ℕ → ℕ → ℕ → Looked
probe_for key k slots start left = probe (length slots) slots (is_key key k) start left

-- of the keys 0 to g - 1, one that has none of its like before it
pub record Leads (key : ℕ → Part) (g r : ℕ) : Type 0 where
  pub to : r < g
  pub first : find (is_key key (key r)) r 0 ≡ r

-- the slots when the keys 0 to g - 1 are entered
pub record Held (key : ℕ → Part) (g : ℕ) (slots : List ℕ) : Type 0 where
  pub entry : (s : ℕ) → 0 < get_or slots s 0 → Leads key g (get_or slots s 0 - 1)
  pub reach : (r : ℕ) → Leads key g r → probe (length slots) slots (λ e. eqb e r) (slot_of (key r) (length slots)) (length slots) ≡ Found r
  pub few : occupied slots ≤ g

-- the index of g keys of a run of words from key `base` on, as a look-up asks for it
pub record Loaded (t : List ℕ) (layout : Layout) (base g : ℕ) (slots : List ℕ) : Type 0 where
  pub inside : base + g ≤ key_count t layout
  pub bound : g ≤ 2097152
  pub some : 0 < length slots
  pub most : length slots ≤ 1048576
  pub held : Held (shift (key_at t layout) base) g slots

-- what a search for a key among g of them says: the first place where it stands, or that it does not
pub record Finds (key : ℕ → Part) (g : ℕ) (k : Part) (r : Option ℕ) : Type 0 where
  pub found : (j : ℕ) → r ≡ Some j → Leads key g j × (key j ≡ k)
  pub none : r ≡ None → (j : ℕ) → j < g → key j ≡ k → ⊥

-- every slot names a key of the run of words
pub record Within (t : List ℕ) (layout : Layout) (base : ℕ) (slots : List ℕ) : Type 0 where
  pub at : (s : ℕ) → base + get_or slots s 0 ≤ key_count t layout

-- how many keys are entered at a time
abbrev pub portion : ℕ → ℕ
portion size = (size + 1) / 2

-- between two calls: a table of n entries that is one portion is entered whole
pub record Ready (t : List ℕ) (layout : Layout) (n : ℕ) (slots : List ℕ) : Type 0 where
  pub held : n ≤ portion (length slots) → Held (shift (key_at t layout) 0) n slots
