-- What the writer's passes keep: a run of trees with their indices, the work words from a tree on, the output up to a tree.
use Rattle.std.specs.Prelude.{ℕ, ◌+◌, ◌-◌, ◌≤◌, ◌<◌, Bool, not, ◌≡◌, List, length, get_or}
use Rattle.format.specs.Word.{put}
use Rattle.format.specs.Tree.{count_of}
use Rattle.format.specs.Width.{open_at, close_at}
use Rattle.format.specs.Part.{span_from}
use Rattle.format.specs.Tables.{Limits, Mode}
use Rattle.format.specs.WordList.{word_of, raw_from, list_count}
use Rattle.format.specs.Writer.{find, present}
use Rattle.places.specs.Places.{Roomy, Indexed, Resolved}
use Rattle.tree.specs.declared.raw.RawSubtree.{RawSubtree}
use Rattle.passes.specs.declared.runs.Runs.{Runs}
use Rattle.passes.specs.Tail.{size_from, head_of}

-- slots and arrays of indices of the sizes that are asked for
pub record Lent (t : Runs) (part_slots symbol_slots opens closes syms : List ℕ) : Type 0 where
  pub roomy : Roomy t.limits.limit (length t.parts.now) (length t.symbols.now) (length part_slots) (length symbol_slots)
  pub some : 1 ≤ length opens
  pub even_closes : length closes ≡ length opens
  pub even_syms : length syms ≡ length opens

-- … as `resolve` asks for them
pub record Ready (t : Runs) (part_slots symbol_slots opens closes syms : List ℕ) : Type 0 where
  pub lent : Lent t part_slots symbol_slots opens closes syms
  pub indexed : Indexed t.limits.limit t.parts.now t.symbols.now part_slots symbol_slots

-- they are as long as they were
pub record Kept (part_slots symbol_slots opens closes syms part_slots₀ symbol_slots₀ opens₀ closes₀ syms₀ : List ℕ) : Type 0 where
  pub of_part_slots : length part_slots ≡ length part_slots₀
  pub of_symbol_slots : length symbol_slots ≡ length symbol_slots₀
  pub of_opens : length opens ≡ length opens₀
  pub of_closes : length closes ≡ length closes₀
  pub of_syms : length syms ≡ length syms₀

-- trees `from` to `stop` - 1, below the root, lie in the list and have their indices
pub record Run (M : Mode) (l : List ℕ) (from stop : ℕ) (opens closes syms : List ℕ) : Type 0 where
  pub resolved : Resolved M l from (length opens) opens closes syms
  pub below : 1 ≤ from
  pub some : from ≤ stop
  pub last : stop ≤ list_count l
  pub fits : stop ≤ from + length opens
  pub even_closes : length closes ≡ length opens
  pub even_syms : length syms ≡ length opens

-- ---- row 5

-- "part or symbol absent from its table"
unfoldable pub absent : Mode → List ℕ → ℕ → Bool
absent M l n = not (present M l n)

-- the first such tree of a run, or its end
unfoldable pub first_absent : Mode → List ℕ → ℕ → ℕ → ℕ
first_absent M l from stop = find (absent M l) (stop - from) from

-- how far indices below the root reach; where the root's are, is not asked
abbrev pub reach : ℕ → ℕ → Limits
reach limit symbols = record { limit = limit; root = limit; symbols = symbols }

-- places in tables of these sizes
pub record InTables (limit symbols o c y : ℕ) : Type 0 where
  pub opening : o < limit
  pub closing : c < limit
  pub symbol : y < symbols

-- ---- work words

-- the descendants of tree n; they do not turn on its indices
unfoldable pub count_in : List ℕ → ℕ → ℕ
count_in l n = count_of (raw_from 0 0 0 (word_of l n))

-- the bytes of the descendants of tree n, by the work words
unfoldable pub children_in : List ℕ → ℕ → List ℕ → ℕ
children_in l n work = get_or work (n + 1) 0 - get_or work (n + 1 + count_in l n) 0

-- both words are there, and their difference is a number
pub record Spanned (l : List ℕ) (n : ℕ) (work : List ℕ) : Type 0 where
  pub tree : n < list_count l
  pub many : list_count l ≤ 1048576
  pub room : n + 1 + count_in l n < length work
  pub falls : get_or work (n + 1 + count_in l n) 0 ≤ get_or work (n + 1) 0

-- "Work words, one more than the trees, hold at i the bytes of trees i to the end", from word n on
pub record Sized (M : Mode) (l : List ℕ) (n : ℕ) (work : List ℕ) : Type 0 where
  pub room : list_count l < length work
  pub at : (i : ℕ) → n ≤ i → i ≤ list_count l → get_or work i 0 ≡ size_from M l i

-- words past those of the trees stay
pub record Beyond (l work work₀ : List ℕ) : Type 0 where
  pub same : (i : ℕ) → list_count l < i → get_or work i 0 ≡ get_or work₀ i 0
  pub long : length work ≡ length work₀

-- ---- the output

-- word n is there, and all bytes are no fewer than those from tree n on
pub record Falls (work : List ℕ) (n : ℕ) : Type 0 where
  pub room : n < length work
  pub falls : get_or work n 0 ≤ get_or work 0 0

-- the root by its words and the index of its open part; it holds all others
abbrev pub root_of : List ℕ → ℕ → RawSubtree
root_of l root =
    record {
      opening = record { index = root; start = (span_from (word_of l 0) open_at).start; len = (span_from (word_of l 0) open_at).len };
      closing = record { index = root + 1; start = (span_from (word_of l 0) close_at).start; len = (span_from (word_of l 0) close_at).len };
      len = record { 0 = list_count l - 1 };
      kind = word_of l 0 2;
    }

-- from the bytes of the trees before tree n to those before tree m, whatever stood there at first
pub record Advanced (M : Mode) (l : List ℕ) (n m : ℕ) (out out' : List ℕ) : Type 0 where
  pub goes : (b : List ℕ) → size_from M l 0 ≤ length b → out ≡ put b 0 (head_of M l n) → out' ≡ put b 0 (head_of M l m)
