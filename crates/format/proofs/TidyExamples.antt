-- Small buffers written again over their tables (document 02, ticket 3); the bytes expected are worked out from document 01's layout.
use Prim.Native.Nat.{ℕ}
use mathlib.Core.Path.{◌≡◌, refl}
use mathlib.Core.List.{List, [], ◌∷◌, ◌++◌}
use lib.ListN.{replicate}
use Rattle.format.specs.Verdict.{Verdict, passed, each_from, Report, wrote, refusal}
use Rattle.format.specs.Word.{put}
use Rattle.format.specs.Nest.{nest_from, still_open}
use Rattle.format.specs.Check.{check}
use Rattle.format.specs.Write.{tree_bytes, literal_bytes, subtree_bytes, span_bytes, symbol_bytes, heavy_bytes, root_bytes, suffixes}
use Rattle.format.specs.Buffer.{buffer_check}
use Rattle.format.specs.WordList.{raw_from}
use Rattle.format.specs.Writer.{find, raws}
use Rattle.format.specs.Tidy.{tidied, tidy_work, tidy_verdict, tidy_report, tidy_out}
use Rattle.format.proofs.ReplaceExamples.{Stored, old, zeros, around, files, one, two, nested, loose}

module _ (s : Stored) where
  asked : Verdict
  unfolding old check each_from nest_from still_open raw_from
  asked = buffer_check s.bytes s.trees s.parts s.symbols

  tidy : List ℕ
  unfolding old find raws raw_from suffixes tree_bytes literal_bytes subtree_bytes root_bytes heavy_bytes span_bytes symbol_bytes
  tidy = tidied s.bytes s.trees s.parts s.symbols

  -- so many work words, and the output
  module _ (a c d : ℕ) (x : List ℕ) where
    report : Report
    unfolding asked tidy tidy_work tidy_verdict
    report = tidy_report s.bytes s.trees s.parts s.symbols a c d x

    after : List ℕ
    unfolding report put
    after = tidy_out s.bytes s.trees s.parts s.symbols a c d x

-- what the writer made stays
written_stay : (tidy one ≡ one.bytes) × (tidy two ≡ two.bytes) × (tidy nested ≡ nested.bytes)
unfolding tidy
written_stay = (refl, refl, refl)

-- `loose` names the second place of its part and of its symbol, 2, in eight and in two bytes. The first of both is 1: in hex 2 + 1 × 4 + 1 × 40 + A × 8000 = 50046,
-- then symbol 1
abbrev first_bytes : List ℕ
first_bytes = around 3 1 5 ++ (0x46 ∷ 0x00 ∷ 0x05 ∷ 0x00 ∷ 0x04 ∷ [])

first_places : tidy loose ≡ first_bytes
unfolding tidy
first_places = refl

-- with room for just that and 32 × 2 + 32 work words; with more, whose rest stays; one byte short
rooms : (report loose 48 30 18 (zeros 38) ≡ wrote 38) × (after loose 48 30 18 (zeros 38) ≡ first_bytes)
    × (report loose 50 31 19 (replicate 40 9) ≡ wrote 38) × (after loose 50 31 19 (replicate 40 9) ≡ first_bytes ++ (9 ∷ 9 ∷ []))
    × (report loose 48 30 18 (replicate 37 9) ≡ refusal 6 0) × (after loose 48 30 18 (replicate 37 9) ≡ replicate 37 9)
unfolding after
rooms = (refl, refl, refl, refl, refl, refl)

-- work words of each run one short, with ample room for the bytes
short_work_lem : (report loose 47 30 18 (zeros 99) ≡ refusal 6 0) × (report loose 48 29 18 (zeros 99) ≡ refusal 6 0) × (report loose 48 30 17 (zeros 99) ≡ refusal 6 0)
    × (after loose 47 30 18 (zeros 99) ≡ zeros 99)
unfolding after
short_work_lem = (refl, refl, refl, refl)

-- a buffer of k trees over one part below the root, without symbols
abbrev over : List ℕ → ℕ → Stored
over b k = record { bytes = b; trees = k; parts = files (7 ∷ 1 ∷ 2 ∷ []); symbols = [] }

-- "the check's own numbers" come first, with nothing lent: a cut tree is 7, an index past the table 8, one of the root's two parts below it too, without a tree 1,
-- control bits that disagree with stored length 3 and with 2048 are 2
check_first : (report (over (around 1 1 7 ++ (0xC0 ∷ 0x80 ∷ 0x02 ∷ 0x00 ∷ 0x00 ∷ 0x00 ∷ [])) 2) 0 0 0 [] ≡ refusal 7 1)
    × (report (over (around 1 1 7 ++ (0xCC ∷ 0x80 ∷ 0x02 ∷ 0x00 ∷ 0x00 ∷ 0x00 ∷ 0x00 ∷ [])) 2) 0 0 0 [] ≡ refusal 8 1)
    × (report (over (around 1 1 7 ++ (0xC4 ∷ 0x80 ∷ 0x02 ∷ 0x00 ∷ 0x00 ∷ 0x00 ∷ 0x00 ∷ [])) 2) 0 0 0 [] ≡ refusal 8 1)
    × (report (over [] 0) 0 0 0 [] ≡ refusal 1 0)
    × (report (over (around 1 1 7 ++ (0xC0 ∷ 0x80 ∷ 0x02 ∷ 0x00 ∷ 0x20 ∷ 0x00 ∷ 0x00 ∷ [])) 2) 0 0 0 [] ≡ refusal 2 1)
    × (report (over (around 1 1 11 ++ (0x00 ∷ 0xC0 ∷ 0x02 ∷ 0x00 ∷ 0x00 ∷ 0x80 ∷ 0x00 ∷ 0x00 ∷ 0x00 ∷ 0x00 ∷ 0x00 ∷ [])) 2) 0 0 0 [] ≡ refusal 2 1)
unfolding report
check_first = (refl, refl, refl, refl, refl, refl)

-- parentheses in the form of both spans where one and a distance do: in hex 5 × 8000 + 40 = 28040 and 8 × 8000 + 40 = 40040, then 1 tree of 5 bytes
abbrev both_spans : Stored
both_spans =
    record {
      bytes =
          around 1 2 22
          ++ (0x40 ∷ 0x80 ∷ 0x02 ∷ 0x00 ∷ 0x05 ∷ 0x40 ∷ 0x00 ∷ 0x04 ∷ 0x00 ∷ 1 ∷ 0 ∷ 0 ∷ 0 ∷ 5 ∷ 0 ∷ 0 ∷ 0 ∷ [])
          ++ (0x42 ∷ 0x00 ∷ 0x05 ∷ 0x00 ∷ 0x00 ∷ []);
      trees = 3;
      parts = nested.parts;
      symbols = nested.symbols;
    }

smaller_form : (asked both_spans ≡ passed) × (old both_spans ≡ old nested) × (tidy both_spans ≡ nested.bytes)
unfolding asked tidy
smaller_form = (refl, refl, refl)

-- a Str in the long form, its tag set, in seven bytes; `+` Joint as any character, in nine; braces in 010, distance 2, close part 1, in nine; brackets in 101 whose
-- close span, 5 × 8000 + 40, has both extra bits set, in seventeen. Parts 0 and 1 are alike, and the symbols are
abbrev long_forms : Stored
long_forms =
    record {
      bytes =
          around 2 4 42
          ++ (0xC0 ∷ 0x00 ∷ 0x06 ∷ 0x00 ∷ 0x27 ∷ 0x00 ∷ 0x01 ∷ [])
          ++ (0x40 ∷ 0x00 ∷ 0x08 ∷ 0x00 ∷ 0x0E ∷ 0x2B ∷ 0x00 ∷ 0x00 ∷ 0x00 ∷ [])
          ++ (0x40 ∷ 0x00 ∷ 0x09 ∷ 0x00 ∷ 0x2A ∷ 0x02 ∷ 0x00 ∷ 0x00 ∷ 0x00 ∷ [])
          ++ (0x40 ∷ 0x80 ∷ 0x01 ∷ 0x00 ∷ 0x15 ∷ 0x43 ∷ 0x80 ∷ 0x02 ∷ 0x00 ∷ 0 ∷ 0 ∷ 0 ∷ 0 ∷ 0 ∷ 0 ∷ 0 ∷ 0 ∷ []);
      trees = 5;
      parts = files (7 ∷ 7 ∷ 1 ∷ 2 ∷ []);
      symbols = 9 ∷ 9 ∷ [];
    }

-- in six, five and twice seven bytes: the last two have distance 2 in the place of a length
shorter_forms : (asked long_forms ≡ passed)
    × (tidy long_forms
    ≡ around 2 4 25 ++ (0xC0 ∷ 0x00 ∷ 0x06 ∷ 0x00 ∷ 0x03 ∷ 0x00 ∷ []) ++ (0x41 ∷ 0x00 ∷ 0x08 ∷ 0x00 ∷ 0x57 ∷ [])
    ++ (0x80 ∷ 0x00 ∷ 0x09 ∷ 0x00 ∷ 0x08 ∷ 0x00 ∷ 0x00 ∷ []) ++ (0x80 ∷ 0x80 ∷ 0x01 ∷ 0x00 ∷ 0x10 ∷ 0x00 ∷ 0x00 ∷ []))
unfolding asked tidy
shorter_forms = (refl, refl)

-- the low bits of the root's closing span, which nothing looks at
root_bits : Stored
root_bits =
    record {
      bytes = 4 ∷ 0x40 ∷ 0 ∷ 0 ∷ 1 ∷ 0 ∷ 0 ∷ 0 ∷ 0 ∷ 0 ∷ 0 ∷ 0 ∷ 0x1D ∷ 11 ∷ 0x40 ∷ 0 ∷ 0 ∷ 1 ∷ 0 ∷ 0 ∷ 0 ∷ 0 ∷ 0 ∷ 0 ∷ 0 ∷ 0 ∷ 0 ∷ 0 ∷ 0 ∷ 0 ∷ 0 ∷ 0 ∷ 0 ∷ [];
      trees = 1;
      parts = files (7 ∷ 1 ∷ 2 ∷ []);
      symbols = [];
    }

root_bits_lem : (asked root_bits ≡ passed) × (tidy root_bits ≡ around 1 0 0)
unfolding root_bits asked tidy
root_bits_lem = (refl, refl)
