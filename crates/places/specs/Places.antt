-- What the indices of a run of trees are, and what slots hold between two calls.
use Rattle.std.specs.Prelude.{ℕ, ◌+◌, ◌*◌, ◌<◌, ◌≤◌, Bool, true, ◌≡◌, List, [], length, get_or, ltb, if◌then◌else◌}
use Rattle.format.specs.Width.{part_size}
use Rattle.format.specs.Tables.{Mode}
use Rattle.format.specs.WordList.{word_of, raw_from, list_count}
use Rattle.format.specs.Writer.{find, raw_of}
use Rattle.places.specs.Key.{key_at, is_key, shift}
use Rattle.places.specs.Index.{Leads, Loaded, Ready}
use Rattle.places.specs.declared.key.Layout.{Layout}
use Rattle.places.specs.declared.key.Layout.TheVariants.{Parts, Symbols, Open, Close, Name}

-- a table mode as far as trees below the root tell: which parts are the root's, they do not ask
abbrev pub below_root : ℕ → List ℕ → List ℕ → Mode
below_root limit parts symbols = record { sized = true; limit = limit; root = limit; parts = parts; pair = []; symbols = symbols }

-- of trees from, from + 1, .. (m of them, as far as they exist) the indices that they use: "A part's index is its first place before those two, a symbol's its first place."
pub record Resolved (M : Mode) (l : List ℕ) (from m : ℕ) (opens closes syms : List ℕ) : Type 0 where
  pub at : (j : ℕ) → j < m → from + j < list_count l
      → raw_from (get_or opens j 0) (get_or closes j 0) (get_or syms j 0) (word_of l (from + j)) ≡ raw_of M l (from + j)

-- the sizes asked for: row 1's bounds on the tables, the parts as far as the limit, and some slots
pub record Roomy (limit parts symbols part_slots symbol_slots : ℕ) : Type 0 where
  pub below : part_size * limit ≤ parts
  pub of_parts : limit ≤ 2097152
  pub of_symbols : symbols ≤ 1048576
  pub some_part : 0 < part_slots
  pub some_symbol : 0 < symbol_slots
  pub most_part : part_slots ≤ 1048576
  pub most_symbol : symbol_slots ≤ 1048576

-- what slots hold between two calls
pub record Indexed (limit : ℕ) (parts symbols part_slots symbol_slots : List ℕ) : Type 0 where
  pub of_parts : Ready parts Parts limit part_slots
  pub of_symbols : Ready symbols Symbols (length symbols) symbol_slots

-- both tables are indexed whole, the parts as far as the limit
pub record Whole (limit : ℕ) (parts symbols part_slots symbol_slots : List ℕ) : Type 0 where
  pub of_parts : Loaded parts Parts 0 limit part_slots
  pub of_symbols : Loaded symbols Symbols 0 (length symbols) symbol_slots

-- ---- a table that is read through once for a run of keys: those of the trees `from`, from + 1, ..

-- the first d have their first place among the n entries, the others have n
pub record Placed (t : List ℕ) (table : Layout) (n : ℕ) (l : List ℕ) (keys : Layout) (from d : ℕ) (out : List ℕ) : Type 0 where
  pub done : (j : ℕ) → j < d → get_or out j 0 ≡ find (is_key (key_at t table) (key_at l keys (from + j))) n 0
  pub todo : (j : ℕ) → d ≤ j → j < length out → get_or out j 0 ≡ n

-- the first place among the first e of n entries, n if there is none yet
unfoldable pub so_far : (ℕ → Bool) → ℕ → ℕ → ℕ
so_far test n e = if ltb (find test e 0) e then find test e 0 else n

-- while the keys a to a + m - 1 are looked for, the first of which is that of tree `base`: of those that lead, the place among the first e entries
pub record Midway (t : List ℕ) (table : Layout) (n : ℕ) (l : List ℕ) (keys : Layout) (from base a m d e : ℕ) (out : List ℕ) : Type 0 where
  pub begin : base ≡ from + a
  pub room : a + m ≤ length out
  pub done : (j : ℕ) → j < d → get_or out j 0 ≡ find (is_key (key_at t table) (key_at l keys (from + j))) n 0
  pub todo : (j : ℕ) → a + m ≤ j → j < length out → get_or out j 0 ≡ n
  pub leads : (j : ℕ) → Leads (shift (key_at l keys) base) m j → get_or out (a + j) 0 ≡ so_far (is_key (key_at t table) (shift (key_at l keys) base j)) n e

-- of the first m trees the close part of a subtree is its open part
pub record AsOpen (l : List ℕ) (from m : ℕ) : Type 0 where
  pub at : (j : ℕ) → j < m → 2 < word_of l (from + j) 0 → key_at l Close (from + j) ≡ key_at l Open (from + j)

-- a test that says so
pub record Tells (r : Bool) (l : List ℕ) (from m : ℕ) : Type 0 where
  pub yes : r ≡ true → AsOpen l from m

-- the close part of a subtree has its place
pub record Closed (parts : List ℕ) (g : ℕ) (l : List ℕ) (from m : ℕ) (closes : List ℕ) : Type 0 where
  pub at : (j : ℕ) → j < m → 2 < word_of l (from + j) 0 → get_or closes j 0 ≡ find (is_key (key_at parts Parts) (key_at l Close (from + j))) g 0

-- the first m numbers are the same
pub record Copied (m : ℕ) (a b : List ℕ) : Type 0 where
  pub at : (j : ℕ) → j < m → get_or b j 0 ≡ get_or a j 0

-- the first m trees of the run
pub record Streamed (limit : ℕ) (parts symbols l : List ℕ) (from m : ℕ) (opens closes syms : List ℕ) : Type 0 where
  pub opening : Placed parts Parts limit l Open from m opens
  pub closing : Closed parts limit l from m closes
  pub symbol : Placed symbols Symbols (length symbols) l Name from m syms
