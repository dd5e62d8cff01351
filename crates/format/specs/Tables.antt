-- The tables: row 1 on their sizes, row 8 on a tree's indices, a tree's list words by their entries, and the table mode that reader and writer share.
use Rattle.std.specs.Prelude.{ℕ, ◌+◌, ◌*◌, ◌-◌, ◌/◌, ◌%◌, Bool, false, ◌&&◌, List, ◌∷◌, ◌++◌, length, get_or, drop, ltb, leb, eqb, if◌then◌else◌}
use Rattle.format.specs.Width.{part_size}
use Rattle.format.specs.Span.{Span}
use Rattle.format.specs.Part.{Part, part_at, span_list, no_span}
use Rattle.format.specs.Tree.{Raw, punct, ident, literal, subtree}

-- what tables say of sizes and indices: all that the check asks of them
pub record TableRules : Type 0 where
  -- row 1 is silent on the tables
  pub sized : Bool
  -- tree n, whose indices these are: 0, or the number of the row that refuses them
  pub judged : ℕ → Raw → ℕ

-- the same, and tree n by its list words
pub record Tables : Type 0 where
  pub sized : Bool
  pub judged : ℕ → Raw → ℕ
  pub words : ℕ → Raw → List ℕ

abbrev pub rules : Tables → TableRules
rules T = record { sized = T.sized; judged = T.judged }

-- ---- row 8

-- how far a tree's indices reach
pub record Limits : Type 0 where
  -- a part below the root has an index below this
  pub limit : ℕ
  -- the index of the root's open part; that of its close part is the next
  pub root : ℕ
  -- how many symbols there are
  pub symbols : ℕ

module _ (N : Limits) where
  -- "index outside its table, a descendant using one of the last two parts"
  abbrev pub part_in : Span → Bool
  part_in s = ltb s.index N.limit

  abbrev pub symbol_in : ℕ → Bool
  symbol_in i = ltb i N.symbols

  abbrev pub indexed_below : Raw → Bool
  indexed_below (punct s c x) = part_in s
  indexed_below (ident s i r) = part_in s && symbol_in i
  indexed_below (literal s i k r x) = part_in s && symbol_in i
  indexed_below (subtree s t n d) = part_in s && part_in t

  -- "a root not using them"; "part indices the last two of the table"
  abbrev pub indexed_root : Raw → Bool
  indexed_root (punct s c x) = false
  indexed_root (ident s i r) = false
  indexed_root (literal s i k r x) = false
  indexed_root (subtree s t n d) = eqb s.index N.root && eqb t.index (N.root + 1)

  abbrev pub row_eight : ℕ → Raw → ℕ
  row_eight n t = if (if eqb n 0 then indexed_root t else indexed_below t) then 0 else 8

-- ---- a table mode: where a tree's indices lead, for a reader and for a writer. Document 01's is one value of this record (`own_mode`)

pub record Mode : Type 0 where
  -- row 1 is silent on the tables
  pub sized : Bool
  -- as in `Limits`
  pub limit : ℕ
  pub root : ℕ
  -- a run whose first `limit` parts are those below the root, whatever stands behind them; the root's two parts; the symbols
  pub parts : List ℕ
  pub pair : List ℕ
  pub symbols : List ℕ

module _ (M : Mode) where
  abbrev pub limits : Limits
  limits = record { limit = M.limit; root = M.root; symbols = length M.symbols }

  -- the part that tree n means by an index, which row 8 has passed: a root's is `root` or the next
  abbrev pub entry_at : ℕ → ℕ → Part
  entry_at n i = if eqb n 0 then part_at M.pair (i - M.root) else part_at M.parts i

  -- a packed span of tree n with its part looked up
  abbrev pub span_words : ℕ → Span → List ℕ
  span_words n s = span_list (record { part = entry_at n s.index; start = s.start; len = s.len })

  -- the words of tree n: sort, two words of its own, the span or the opening one, the closing one
  unfoldable pub tree_words : ℕ → Raw → List ℕ
  tree_words n (punct s c x) = 0 ∷ c ∷ x ∷ span_words n s ++ span_list no_span
  tree_words n (ident s i r) = 1 ∷ get_or M.symbols i 0 ∷ r ∷ span_words n s ++ span_list no_span
  tree_words n (literal s i k r x) = 2 ∷ get_or M.symbols i 0 ∷ (k + 256 * r + 65536 * x) ∷ span_words n s ++ span_list no_span
  tree_words n (subtree s t c d) = 3 ∷ c ∷ d ∷ span_words n s ++ span_words n t

  abbrev pub mode_tables : Tables
  mode_tables = record { sized = M.sized; judged = row_eight limits; words = tree_words }

-- ---- document 01's mode: a part table, the last two of which are the root's, and a symbol table

-- "Span parts: 2 to 2,097,152. Symbols: 0 to 1,048,576.": by how many there are
abbrev pub tables_sized : ℕ → ℕ → Bool
tables_sized parts symbols = leb 2 parts && leb parts 2097152 && leb symbols 1048576

-- "part indices the last two of the table"; with fewer than two row 1 refuses the tables
abbrev pub own_limits : ℕ → ℕ → Limits
own_limits parts symbols = record { limit = parts - 2; root = parts - 2; symbols = symbols }

-- tables of which the sizes alone are known
abbrev pub count_rules : ℕ → ℕ → TableRules
count_rules parts symbols = record { sized = tables_sized parts symbols; judged = row_eight (own_limits parts symbols) }

module _ (parts symbols : List ℕ) where
  abbrev pub part_count : ℕ
  part_count = length parts / part_size

  -- "or part words of 3"
  abbrev pub own_mode : Mode
  own_mode =
      record {
        sized = eqb (length parts % part_size) 0 && tables_sized part_count (length symbols);
        limit = part_count - 2;
        root = part_count - 2;
        parts = parts;
        pair = drop (part_size * (part_count - 2)) parts;
        symbols = symbols;
      }

  abbrev pub own_tables : Tables
  own_tables = mode_tables own_mode
