-- One leaf exchanged in small buffers (document 02, ticket 1), and the size before (ticket 4); the bytes expected are worked out from document 01's layout.
use Prim.Native.Nat.{ℕ, zero, suc, ◌+◌, ◌*◌}
use mathlib.Core.Path.{◌≡◌, refl}
use mathlib.Core.List.{List, [], ◌∷◌, ◌++◌}
use lib.ListN.{replicate}
use Rattle.format.specs.Verdict.{Verdict, passed, refused, each_from}
use Rattle.format.specs.Word.{word_at, half_at, put}
use Rattle.format.specs.Span.{span_at, symbol_at}
use Rattle.format.specs.Nest.{nest_from, still_open}
use Rattle.format.specs.Tree.{tree_at, after_span, controlled}
use Rattle.format.specs.Check.{check, place_of}
use Rattle.format.specs.Write.{tree_bytes, literal_bytes, subtree_bytes, span_bytes, symbol_bytes, heavy_bytes, root_bytes, suffixes}
use Rattle.format.specs.Tables.{tree_words}
use Rattle.format.specs.Buffer.{judge, own_reader}
use Rattle.format.specs.WordList.{words_up_to, raw_from}
use Rattle.format.specs.Writer.{find, raws}
use Rattle.format.specs.Distinct.{any_in, tally, news}
use Rattle.format.specs.Order.{range, before, insert, falling, ordered}
use Rattle.format.specs.MakeTables.{key_count, live_at, key_place, alike_at, limit_of, keys_of, times_of, table_keys, words_of, table_words, part_table, symbol_table}
use Rattle.format.specs.Replace.{fresh_bytes, ReplaceReport, replaced, refusal, is_leaf, exchanged, replace_verdict, replace_work, replace_out, replace_report, bytes_out, parts_out, symbols_out}
use Rattle.format.specs.Preview.{preview_report}
use Rattle.format.specs.Unpack.{list_of}

-- a buffer, how many trees it has, its part words and its symbols
pub record Stored : Type 0 where
  pub bytes : List ℕ
  pub trees : ℕ
  pub parts : List ℕ
  pub symbols : List ℕ

unfoldable pub old : Stored → List ℕ
unfolding list_of words_up_to own_reader judge place_of tree_words tree_at after_span controlled span_at symbol_at word_at half_at
old s = list_of s.bytes s.trees s.parts s.symbols

-- what is written of a list: bytes, part words, symbols
fresh : List ℕ → List (List ℕ)
unfolding part_table symbol_table table_words words_of table_keys keys_of times_of limit_of key_count live_at alike_at key_place ordered range falling insert before news tally any_in
    find raws raw_from suffixes tree_bytes literal_bytes subtree_bytes root_bytes heavy_bytes span_bytes symbol_bytes
fresh l = fresh_bytes l ∷ part_table l ∷ symbol_table l ∷ []

-- a tree number and a leaf
module _ (s : Stored) (n : ℕ) (w : List ℕ) where
  new : List ℕ
  unfolding old exchanged put
  new = exchanged s.bytes s.trees s.parts s.symbols n w

  -- all but 6
  asked : Verdict
  unfolding old replace_verdict is_leaf check each_from nest_from still_open raw_from
  asked = replace_verdict s.bytes s.trees s.parts s.symbols n w

  -- so many work words
  preview : (a c d : ℕ) → ReplaceReport
  unfolding new fresh asked replace_work
  preview a c d = preview_report s.bytes s.trees s.parts s.symbols n w a c d

  -- so many work words, and the outputs
  module _ (a c d : ℕ) (x y z : List ℕ) where
    report : ReplaceReport
    unfolding new fresh asked replace_work replace_out
    report = replace_report s.bytes s.trees s.parts s.symbols n w a c d x y z

    -- bytes, part words and symbols then
    after : List (List ℕ)
    unfolding report
    after =
        bytes_out s.bytes s.trees s.parts s.symbols n w a c d x y z
        ∷ parts_out s.bytes s.trees s.parts s.symbols n w a c d x y z
        ∷ symbols_out s.bytes s.trees s.parts s.symbols n w a c d x y z
        ∷ []

abbrev pub zeros : ℕ → List ℕ
zeros n = replicate n 0

-- ---- leaves by their words, and an Invisible root

abbrev punct_of : ℕ → ℕ → ℕ → ℕ → List ℕ
punct_of char spacing file start = 0 ∷ char ∷ spacing ∷ file ∷ 0 ∷ 0 ∷ start ∷ 1 ∷ zeros 5

abbrev ident_of : ℕ → ℕ → ℕ → ℕ → List ℕ
ident_of symbol raw file start = 1 ∷ symbol ∷ raw ∷ file ∷ 0 ∷ 0 ∷ start ∷ 1 ∷ zeros 5

abbrev literal_of : ℕ → ℕ → ℕ → ℕ → List ℕ
literal_of symbol kind file start = 2 ∷ symbol ∷ kind ∷ file ∷ 0 ∷ 0 ∷ start ∷ 1 ∷ zeros 5

-- n descendants
abbrev root_of : ℕ → List ℕ
root_of n = 3 ∷ n ∷ 3 ∷ 1 ∷ 0 ∷ 0 ∷ 0 ∷ 0 ∷ 2 ∷ 0 ∷ 0 ∷ 0 ∷ 0 ∷ []

-- its bytes: its parts are i and i + 1 of the table, its descendants have so many bytes
abbrev pub around : ℕ → ℕ → ℕ → List ℕ
around i n kids =
    (4 * i) ∷ 0x40 ∷ 0 ∷ 0 ∷ 1 ∷ 0 ∷ 0 ∷ 0 ∷ 0 ∷ 0 ∷ 0 ∷ 0 ∷ 0x1D ∷ (4 * i + 4) ∷ 0x40 ∷ 0 ∷ 0 ∷ 1 ∷ 0 ∷ 0 ∷ 0 ∷ 0 ∷ 0 ∷ 0 ∷ 0 ∷ n ∷ 0 ∷ 0 ∷ 0 ∷ kids ∷ 0 ∷ 0 ∷ 0 ∷ []

abbrev pub files : List ℕ → List ℕ
files [] = []
files (f ∷ fs) = f ∷ 0 ∷ 0 ∷ files fs

-- ---- an ident in the root

-- symbol 100, file 7, start 10, length 1: in hex 2 + 1 × 40 + A × 8000 = 50042, then symbol 0
abbrev pub one : Stored
one =
    record {
      bytes = around 1 1 5 ++ (0x42 ∷ 0x00 ∷ 0x05 ∷ 0x00 ∷ 0x00 ∷ []);
      trees = 2;
      parts = files (7 ∷ 1 ∷ 2 ∷ []);
      symbols = 100 ∷ [];
    }

-- another symbol, raw, and another part of the same file
abbrev other : List ℕ
other = 1 ∷ 200 ∷ 1 ∷ 7 ∷ 3 ∷ 4 ∷ 20 ∷ 3 ∷ zeros 5

-- in hex 2 + 3 × 40 + 14 × 8000 = A00C2, then symbol 0 and raw
abbrev other_bytes : List ℕ
other_bytes = around 1 1 5 ++ (0xC2 ∷ 0x00 ∷ 0x0A ∷ 0x00 ∷ 0x01 ∷ [])

abbrev other_parts : List ℕ
other_parts = 7 ∷ 3 ∷ 4 ∷ 1 ∷ 0 ∷ 0 ∷ 2 ∷ 0 ∷ 0 ∷ []

-- the old part and the old symbol are gone
renamed : (old one ≡ root_of 1 ++ ident_of 100 0 7 10) × (new one 1 other ≡ root_of 1 ++ other)
    × (fresh (root_of 1 ++ other) ≡ other_bytes ∷ other_parts ∷ (200 ∷ []) ∷ [])
unfolding new fresh
renamed = (refl, refl, refl)

-- with room for just that, and 32 × 2 + 32 work words
exact : (report one 1 other 48 30 18 (zeros 38) (zeros 9) (zeros 1) ≡ replaced 38 3 1)
    × (after one 1 other 48 30 18 (zeros 38) (zeros 9) (zeros 1) ≡ other_bytes ∷ other_parts ∷ (200 ∷ []) ∷ [])
unfolding after
exact = (refl, refl)

-- "memory past the reported length is unchanged"
ample : (report one 1 other 50 31 19 (replicate 40 9) (replicate 11 8) (6 ∷ 6 ∷ 6 ∷ []) ≡ replaced 38 3 1)
    × (after one 1 other 50 31 19 (replicate 40 9) (replicate 11 8) (6 ∷ 6 ∷ 6 ∷ [])
    ≡ (other_bytes ++ (9 ∷ 9 ∷ [])) ∷ (other_parts ++ (8 ∷ 8 ∷ [])) ∷ (200 ∷ 6 ∷ 6 ∷ []) ∷ [])
unfolding after
ample = (refl, refl)

-- a leaf of another sort: a punct leaves no symbol, and needs no room for one; a literal, Integer, has a control byte
another_sort : (after one 1 (punct_of 43 0 7 10) 48 30 18 (zeros 38) (zeros 9) []
    ≡ (around 1 1 5 ++ (0x41 ∷ 0x00 ∷ 0x05 ∷ 0x00 ∷ 0x56 ∷ [])) ∷ files (7 ∷ 1 ∷ 2 ∷ []) ∷ [] ∷ [])
    × (report one 1 (punct_of 43 0 7 10) 48 30 18 (zeros 38) (zeros 9) [] ≡ replaced 38 3 0)
    × (after one 1 (literal_of 100 2 7 10) 48 30 18 (zeros 39) (zeros 9) (zeros 1)
    ≡ (around 1 1 6 ++ (0x40 ∷ 0x00 ∷ 0x05 ∷ 0x00 ∷ 0x0C ∷ 0x00 ∷ [])) ∷ files (7 ∷ 1 ∷ 2 ∷ []) ∷ (100 ∷ []) ∷ [])
unfolding after
another_sort = (refl, refl, refl)

-- ---- what is around

-- two idents: part and symbol of the second have index 1
abbrev pub two : Stored
two =
    record {
      bytes = around 2 2 10 ++ (0x42 ∷ 0x00 ∷ 0x05 ∷ 0x00 ∷ 0x00 ∷ 0x46 ∷ 0x00 ∷ 0x06 ∷ 0x00 ∷ 0x04 ∷ []);
      trees = 3;
      parts = files (7 ∷ 8 ∷ 1 ∷ 2 ∷ []);
      symbols = 100 ∷ 101 ∷ [];
    }

-- the first becomes a punct of the second's part: the second has index 0 in both tables
others_move : (asked two 1 (punct_of 43 0 8 10) ≡ passed)
    × (new two 1 (punct_of 43 0 8 10) ≡ root_of 2 ++ punct_of 43 0 8 10 ++ ident_of 101 0 8 12)
    × (fresh (new two 1 (punct_of 43 0 8 10))
    ≡ (around 1 2 10 ++ (0x41 ∷ 0x00 ∷ 0x05 ∷ 0x00 ∷ 0x56 ∷ 0x42 ∷ 0x00 ∷ 0x06 ∷ 0x00 ∷ 0x00 ∷ [])) ∷ files (8 ∷ 1 ∷ 2 ∷ []) ∷ (101 ∷ []) ∷ [])
unfolding asked new fresh
others_move = (refl, refl, refl)

-- an ident in parentheses, open 5, close 8
abbrev pub nested : Stored
nested =
    record {
      bytes = around 1 2 12 ++ (0xC0 ∷ 0x80 ∷ 0x02 ∷ 0x00 ∷ 0x00 ∷ 0x01 ∷ 0x05 ∷ 0x42 ∷ 0x00 ∷ 0x05 ∷ 0x00 ∷ 0x00 ∷ []);
      trees = 3;
      parts = files (7 ∷ 1 ∷ 2 ∷ []);
      symbols = 100 ∷ [];
    }

-- start 131,072 takes eight bytes: the children bytes of both subtrees follow
bytes_follow : (report nested 2 (ident_of 100 0 7 131072) 64 40 24 (zeros 49) (zeros 9) (zeros 1) ≡ replaced 49 3 1)
    × (after nested 2 (ident_of 100 0 7 131072) 64 40 24 (zeros 49) (zeros 9) (zeros 1)
    ≡ (around 1 2 16 ++ (0xC0 ∷ 0x80 ∷ 0x02 ∷ 0x00 ∷ 0x00 ∷ 0x01 ∷ 0x09 ∷ 0x42 ∷ 0x40 ∷ 0x00 ∷ 0x00 ∷ 0x00 ∷ 0x00 ∷ 0x40 ∷ 0x00 ∷ 0x00 ∷ []))
    ∷ files (7 ∷ 1 ∷ 2 ∷ []) ∷ (100 ∷ []) ∷ [])
unfolding after
bytes_follow = (refl, refl)

-- the root's open part below it: it stands twice
root_part : fresh (new one 1 (ident_of 100 0 1 10)) ≡ one.bytes ∷ files (1 ∷ 1 ∷ 2 ∷ []) ∷ (100 ∷ []) ∷ []
unfolding new fresh
root_part = refl

-- `+` of m parts, from index i on
abbrev plus_bytes : ℕ → ℕ → List ℕ
plus_bytes zero i = []
plus_bytes (suc m) i = (0x41 + 4 * i) ∷ 0x00 ∷ 0x05 ∷ 0x00 ∷ 0x56 ∷ plus_bytes m (i + 1)

-- files 10 to 24, then 24 and 10 again: 15 parts, and the root's 15 and 16
abbrev many : Stored
many =
    record {
      bytes = (0x3C ∷ 0x40 ∷ 0 ∷ 0 ∷ 1 ∷ 0 ∷ 0 ∷ 0 ∷ 0 ∷ 0 ∷ 0 ∷ 0 ∷ 0x1D ∷ 0x00 ∷ 0x40 ∷ 0 ∷ 0 ∷ 1 ∷ 0 ∷ 0 ∷ 0 ∷ 1 ∷ 0 ∷ 0 ∷ 0 ∷ 17 ∷ 0 ∷ 0 ∷ 0 ∷ 85 ∷ 0 ∷ 0 ∷ 0 ∷ [])
          ++ plus_bytes 15 0 ++ plus_bytes 1 14 ++ plus_bytes 1 0;
      trees = 18;
      parts = files (10 ∷ 11 ∷ 12 ∷ 13 ∷ 14 ∷ 15 ∷ 16 ∷ 17 ∷ 18 ∷ 19 ∷ 20 ∷ 21 ∷ 22 ∷ 23 ∷ 24 ∷ 1 ∷ 2 ∷ []);
      symbols = [];
    }

-- "tables made afresh by document 01's order": file 25 for the last one makes 16 parts, so 24, used twice, comes first
sixteenth : part_table (new many 17 (punct_of 43 0 25 10)) ≡ files (24 ∷ 10 ∷ 11 ∷ 12 ∷ 13 ∷ 14 ∷ 15 ∷ 16 ∷ 17 ∷ 18 ∷ 19 ∷ 20 ∷ 21 ∷ 22 ∷ 23 ∷ 25 ∷ 1 ∷ 2 ∷ [])
unfolding new fresh
sixteenth = refl

-- ---- loose bytes over loose tables

-- file 5 and symbol 50 are not used, file 7 and symbol 100 stand twice and are named by the second; eight bytes for the span, two for the symbol
abbrev pub loose : Stored
loose =
    record {
      bytes = around 3 1 10 ++ (0x4A ∷ 0x40 ∷ 0x05 ∷ 0x00 ∷ 0x00 ∷ 0x00 ∷ 0x00 ∷ 0x00 ∷ 0x0A ∷ 0x00 ∷ []);
      trees = 2;
      parts = files (5 ∷ 7 ∷ 7 ∷ 1 ∷ 2 ∷ []);
      symbols = 50 ∷ 100 ∷ 100 ∷ [];
    }

-- the leaf for itself: the list stays, bytes and tables are those of `one`
same_leaf : (old loose ≡ old one) × (new loose 1 (ident_of 100 0 7 10) ≡ old loose)
    × (after loose 1 (ident_of 100 0 7 10) 48 30 18 (zeros 38) (zeros 9) (zeros 1) ≡ one.bytes ∷ one.parts ∷ one.symbols ∷ [])
unfolding after
same_leaf = (refl, refl, refl)

-- ---- "10 for a tree number at or past the tree count or of a subtree"

-- sort 3
abbrev no_leaf : List ℕ
no_leaf = 3 ∷ 0 ∷ 0 ∷ 7 ∷ 0 ∷ 0 ∷ 10 ∷ 1 ∷ zeros 5

-- at that number, with a bad leaf too
ten : (asked one 2 other ≡ refused 10 2) × (asked one 4294967295 other ≡ refused 10 4294967295) × (asked one 0 other ≡ refused 10 0)
    × (asked nested 1 other ≡ refused 10 1) × (asked nested 2 other ≡ passed)
    × (asked one 2 no_leaf ≡ refused 10 2) × (asked one 0 no_leaf ≡ refused 10 0) × (asked nested 1 no_leaf ≡ refused 10 1)
unfolding asked
ten = (refl, refl, refl, refl, refl, refl, refl, refl)

-- ---- "2 for a bad leaf"

-- a subtree; sort 4; no scalar value; spacing 3; raw 2; kind 11; a raw count for Str; a suffix of 256
bad_fields : (asked one 1 no_leaf ≡ refused 2 1) × (asked one 1 (4 ∷ 0 ∷ 0 ∷ 7 ∷ 0 ∷ 0 ∷ 10 ∷ 1 ∷ zeros 5) ≡ refused 2 1)
    × (asked one 1 (punct_of 0xD800 0 7 10) ≡ refused 2 1) × (asked one 1 (punct_of 0xDFFF 0 7 10) ≡ refused 2 1) × (asked one 1 (punct_of 0x110000 0 7 10) ≡ refused 2 1)
    × (asked one 1 (punct_of 0xD7FF 0 7 10) ≡ passed) × (asked one 1 (punct_of 0xE000 0 7 10) ≡ passed) × (asked one 1 (punct_of 0x10FFFF 2 7 10) ≡ passed)
    × (asked one 1 (punct_of 43 3 7 10) ≡ refused 2 1) × (asked one 1 (ident_of 100 2 7 10) ≡ refused 2 1)
    × (asked one 1 (literal_of 100 11 7 10) ≡ refused 2 1) × (asked one 1 (literal_of 100 0x000104 7 10) ≡ refused 2 1)
    × (asked one 1 (literal_of 100 0x1000002 7 10) ≡ refused 2 1) × (asked one 1 (literal_of 100 0xFFFF05 7 10) ≡ passed)
unfolding asked
bad_fields = (refl, refl, refl, refl, refl, refl, refl, refl, refl, refl, refl, refl, refl, refl)

-- an ident of this length, and these words 8 to 12
abbrev closed_by : ℕ → List ℕ → List ℕ
closed_by len close = 1 ∷ 100 ∷ 0 ∷ 7 ∷ 0 ∷ 0 ∷ 10 ∷ len ∷ close

-- words 8 to 12 not all zero; start + length = 4,294,967,296, and one less
bad_spans : (asked one 1 (closed_by 1 (1 ∷ 0 ∷ 0 ∷ 0 ∷ 0 ∷ [])) ≡ refused 2 1) × (asked one 1 (closed_by 1 (0 ∷ 1 ∷ 0 ∷ 0 ∷ 0 ∷ [])) ≡ refused 2 1)
    × (asked one 1 (closed_by 1 (0 ∷ 0 ∷ 1 ∷ 0 ∷ 0 ∷ [])) ≡ refused 2 1) × (asked one 1 (closed_by 1 (0 ∷ 0 ∷ 0 ∷ 1 ∷ 0 ∷ [])) ≡ refused 2 1)
    × (asked one 1 (closed_by 1 (0 ∷ 0 ∷ 0 ∷ 0 ∷ 1 ∷ [])) ≡ refused 2 1)
    × (asked one 1 (closed_by 4294967286 (zeros 5)) ≡ refused 2 1) × (asked one 1 (closed_by 4294967285 (zeros 5)) ≡ passed)
unfolding asked
bad_spans = (refl, refl, refl, refl, refl, refl, refl)

-- ---- "the buffer's own check first"

-- two trees and a symbol
abbrev damaged : List ℕ → List ℕ → Stored
damaged b parts = record { bytes = b; trees = 2; parts = parts; symbols = 100 ∷ [] }

-- a children byte count of 4 for 5; the ident cut off; part words not a multiple of 3; with all else wrong too
check_first : (report (damaged (around 1 1 4 ++ (0x42 ∷ 0x00 ∷ 0x05 ∷ 0x00 ∷ 0x00 ∷ [])) one.parts) 9 no_leaf 0 0 0 [] [] [] ≡ refusal 9 0)
    × (report (damaged (around 1 1 5 ++ (0x42 ∷ 0x00 ∷ 0x05 ∷ 0x00 ∷ [])) one.parts) 9 no_leaf 0 0 0 [] [] [] ≡ refusal 7 1)
    × (report (damaged one.bytes (0 ∷ one.parts)) 9 no_leaf 0 0 0 [] [] [] ≡ refusal 1 0)
unfolding report
check_first = (refl, refl, refl)

-- then 10, then 2, before 6
then_leaf : (report one 2 no_leaf 0 0 0 [] [] [] ≡ refusal 10 2) × (report one 1 no_leaf 0 0 0 [] [] [] ≡ refusal 2 1)
    × (report one 1 other 0 0 0 [] [] [] ≡ refusal 6 0)
    × (after one 2 other 48 30 18 (replicate 38 9) (replicate 9 8) (6 ∷ []) ≡ replicate 38 9 ∷ replicate 9 8 ∷ (6 ∷ []) ∷ [])
    × (after one 1 no_leaf 48 30 18 (replicate 38 9) (replicate 9 8) (6 ∷ []) ≡ replicate 38 9 ∷ replicate 9 8 ∷ (6 ∷ []) ∷ [])
unfolding after
then_leaf = (refl, refl, refl, refl, refl)

-- ---- "then 6"

-- "work words fewer than 32 × trees + 32": each run one short, the outputs with room
short_work_lem : (report one 1 other 47 30 18 (replicate 38 9) (replicate 9 8) (6 ∷ []) ≡ refusal 6 0)
    × (report one 1 other 48 29 18 (replicate 38 9) (replicate 9 8) (6 ∷ []) ≡ refusal 6 0)
    × (report one 1 other 48 30 17 (replicate 38 9) (replicate 9 8) (6 ∷ []) ≡ refusal 6 0)
    × (after one 1 other 47 30 18 (replicate 38 9) (replicate 9 8) (6 ∷ []) ≡ replicate 38 9 ∷ replicate 9 8 ∷ (6 ∷ []) ∷ [])
    × (after one 1 other 48 29 18 (replicate 38 9) (replicate 9 8) (6 ∷ []) ≡ replicate 38 9 ∷ replicate 9 8 ∷ (6 ∷ []) ∷ [])
    × (after one 1 other 48 30 17 (replicate 38 9) (replicate 9 8) (6 ∷ []) ≡ replicate 38 9 ∷ replicate 9 8 ∷ (6 ∷ []) ∷ [])
unfolding after
short_work_lem = (refl, refl, refl, refl, refl, refl)

-- "an output run too short": each one short; the others, which have room, are unchanged too
short_bytes : (report one 1 other 48 30 18 (replicate 37 9) (replicate 9 8) (6 ∷ []) ≡ refusal 6 0)
    × (after one 1 other 48 30 18 (replicate 37 9) (replicate 9 8) (6 ∷ []) ≡ replicate 37 9 ∷ replicate 9 8 ∷ (6 ∷ []) ∷ [])
unfolding after
short_bytes = (refl, refl)

short_parts : (report one 1 other 48 30 18 (replicate 38 9) (replicate 8 8) (6 ∷ []) ≡ refusal 6 0)
    × (after one 1 other 48 30 18 (replicate 38 9) (replicate 8 8) (6 ∷ []) ≡ replicate 38 9 ∷ replicate 8 8 ∷ (6 ∷ []) ∷ [])
unfolding after
short_parts = (refl, refl)

short_symbols : (report one 1 other 48 30 18 (replicate 38 9) (replicate 9 8) [] ≡ refusal 6 0)
    × (after one 1 other 48 30 18 (replicate 38 9) (replicate 9 8) [] ≡ replicate 38 9 ∷ replicate 9 8 ∷ [] ∷ [])
unfolding after
short_symbols = (refl, refl)

-- ---- "Show the size before replacing"

-- "the byte length and both table sizes", in entries: 9 part words are 3 parts. `nested` has 45 bytes, `loose` 43, with 5 parts and 3 symbols
sizes : (preview one 1 other 48 30 18 ≡ replaced 38 3 1) × (preview one 1 (punct_of 43 0 7 10) 48 30 18 ≡ replaced 38 3 0)
    × (preview nested 2 (ident_of 100 0 7 131072) 64 40 24 ≡ replaced 49 3 1)
    × (preview loose 1 (ident_of 100 0 7 10) 48 30 18 ≡ replaced 38 3 1)
unfolding preview
sizes = (refl, refl, refl, refl)

-- "refusals included": the check's, 10, 2
as_replacing : (preview (damaged (around 1 1 5 ++ (0x42 ∷ 0x00 ∷ 0x05 ∷ 0x00 ∷ [])) one.parts) 9 no_leaf 0 0 0 ≡ refusal 7 1)
    × (preview one 2 no_leaf 0 0 0 ≡ refusal 10 2) × (preview one 1 no_leaf 0 0 0 ≡ refusal 2 1)
unfolding preview
as_replacing = (refl, refl, refl)

-- "6 can then come only from a short work run": each one short
short_alone : (preview one 1 other 47 30 18 ≡ refusal 6 0) × (preview one 1 other 48 29 18 ≡ refusal 6 0) × (preview one 1 other 48 30 17 ≡ refusal 6 0)
unfolding preview
short_alone = (refl, refl, refl)
