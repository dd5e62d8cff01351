-- The writer over given tables: a tree's indices, rows 5 and 6, the bytes, and what the work words and the output hold for every input.
use Rattle.std.specs.Prelude.{ℕ, zero, suc, ◌+◌, Bool, ◌&&◌, List, [], ◌∷◌, length, get_or, leb, eqb, if◌then◌else◌}
use Rattle.format.specs.Verdict.{Verdict, ◌and_then◌, rule, each, contents, Report, report}
use Rattle.format.specs.Word.{put}
use Rattle.format.specs.Width.{open_at, close_at}
use Rattle.format.specs.Part.{Part, part_from, part_at, same_part}
use Rattle.format.specs.Tree.{Raw}
use Rattle.format.specs.Tables.{Mode, limits, indexed_below, own_mode, own_tables}
use Rattle.format.specs.Write.{write, work_words}
use Rattle.format.specs.WordList.{word_of, raw_from, list_count, list_sized, list_rules}

-- the first of the j numbers from i on that passes a test, else i + j
unfoldable pub find : (ℕ → Bool) → ℕ → ℕ → ℕ
find t zero i = i
find t (suc j) i = if t i then i else find t j (i + 1)

-- ---- over the tables of one mode

module _ (M : Mode) where
  abbrev pub is_part : Part → ℕ → Bool
  is_part p i = same_part (part_at M.parts i) p

  -- "A part's index is its first place before those two, a symbol's its first place."
  abbrev pub part_index : Part → ℕ
  part_index p = find (is_part p) M.limit 0

  abbrev pub symbol_index : ℕ → ℕ
  symbol_index y = find (λ i. eqb (get_or M.symbols i 0) y) (length M.symbols) 0

  module _ (l : List ℕ) where
    -- tree n with its indices; the root's are the mode's own, "the last two of the table"
    abbrev pub raw_of : ℕ → Raw
    raw_of n =
        let w : ℕ → ℕ = word_of l n in
        if eqb n 0 then raw_from M.root (M.root + 1) 0 w else
        raw_from (part_index (part_from w open_at)) (part_index (part_from w close_at)) (symbol_index (w 1)) w

    -- trees n to n + j - 1
    unfoldable pub raws : ℕ → ℕ → List Raw
    raws zero n = []
    raws (suc j) n = raw_of n ∷ raws j (n + 1)

    -- row 5: "part or symbol absent from its table, or the last two parts are not the root's"; "root mismatch in 5 is tree 0"
    abbrev pub present : ℕ → Bool
    present n =
        let w : ℕ → ℕ = word_of l n in
        if eqb n 0 then same_part (part_at M.pair 0) (part_from w open_at) && same_part (part_at M.pair 1) (part_from w close_at) else
        indexed_below (limits M) (raw_of n)

    abbrev pub row_five : ℕ → Verdict
    row_five n = rule (present n) 5 n

    -- the buffer made of the trees with their indices
    abbrev pub packed_in : List ℕ
    packed_in = write (raws (list_count l) 0)

-- ---- over document 01's tables

module _ (parts symbols : List ℕ) where
  module _ (l : List ℕ) where
    -- "Writer: 1 to 6 in turn": rows 1 to 5
    unfoldable pub list_verdict : Verdict
    list_verdict =
        rule (list_sized l && (own_tables parts symbols).sized) 1 0 and_then
        list_rules l and_then
        each (row_five (own_mode parts symbols) l) (list_count l)

    -- the trees with their indices, and the buffer made of them
    abbrev pub trees : List Raw
    trees = raws (own_mode parts symbols) l (list_count l) 0

    abbrev pub packed : List ℕ
    packed = packed_in (own_mode parts symbols) l

    module _ (work out : List ℕ) where
      -- row 6, first for the work words, "one more than the trees"
      abbrev pub work_verdict : Verdict
      work_verdict = list_verdict and_then rule (leb (list_count l + 1) (length work)) 6 0

      -- then for the output
      abbrev pub writer_verdict : Verdict
      writer_verdict = work_verdict and_then rule (leb (length packed) (length out)) 6 0

      -- the bytes written, or the refusal
      abbrev pub writer_report : Report
      writer_report = report writer_verdict (length packed)

      -- "they are filled once checks 1 to 5 pass and they suffice, also if the output then proves short"
      abbrev pub work_after : List ℕ
      work_after = contents work_verdict work (put work 0 (work_words trees))

      abbrev pub out_after : List ℕ
      out_after = contents writer_verdict out (put out 0 packed)
