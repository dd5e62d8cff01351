-- Root rewriting on document 01's buffers; the bytes expected are worked out from its layout.
use Prim.Native.Nat.{ℕ}
use mathlib.Core.Path.{◌≡◌, refl}
use mathlib.Core.List.{List, [], ◌∷◌, ◌++◌}
use lib.ListN.{replicate}
use Rattle.format.specs.Verdict.{passed, refused, each_from}
use Rattle.format.specs.Word.{word_at, put}
use Rattle.format.specs.Span.{span_at}
use Rattle.format.specs.Nest.{nest_from, still_open}
use Rattle.format.specs.Tree.{tree_at, after_span, controlled}
use Rattle.format.specs.Check.{check, place_of}
use Rattle.format.specs.Write.{heavy_bytes}
use Rattle.format.specs.Tables.{tree_words}
use Rattle.format.specs.Buffer.{judge, own_reader}
use Rattle.format.specs.Root.{kind_verdict, kind_after, spans_verdict, spans_after, parts_after}
use Rattle.format.specs.Part.{WordSpan}

abbrev zeros : ℕ → List ℕ
zeros n = replicate n 0

abbrev given : ℕ → ℕ → ℕ → ℕ → ℕ → WordSpan
given f a c s l = record { part = record { file = f; ast = a; context = c }; start = s; len = l }

-- "Lone Invisible root, spans 0 and 0, two parts: 00 40 00 00, 01 00 00 00, four 00, 1D, 04 40 00 00, 01 00 00 00, twelve 00"
abbrev lone_root : List ℕ
lone_root = 0x00 ∷ 0x40 ∷ 0 ∷ 0 ∷ 1 ∷ 0 ∷ 0 ∷ 0 ∷ 0 ∷ 0 ∷ 0 ∷ 0 ∷ 0x1D ∷ 0x04 ∷ 0x40 ∷ 0 ∷ 0 ∷ 1 ∷ 0 ∷ 0 ∷ 0 ∷ zeros 12

-- ---- the kind

-- Parenthesis is kind 0, Bracket kind 2: 5 + 8 × 0 and 5 + 8 × 2
kind_written : (kind_verdict lone_root 1 (zeros 6) [] 0 ≡ passed) × (kind_verdict lone_root 1 (zeros 6) [] 2 ≡ passed)
    × (kind_after lone_root 1 (zeros 6) [] 0
    ≡ 0x00 ∷ 0x40 ∷ 0 ∷ 0 ∷ 1 ∷ 0 ∷ 0 ∷ 0 ∷ 0 ∷ 0 ∷ 0 ∷ 0 ∷ 0x05 ∷ 0x04 ∷ 0x40 ∷ 0 ∷ 0 ∷ 1 ∷ 0 ∷ 0 ∷ 0 ∷ zeros 12)
    × (kind_after lone_root 1 (zeros 6) [] 2
    ≡ 0x00 ∷ 0x40 ∷ 0 ∷ 0 ∷ 1 ∷ 0 ∷ 0 ∷ 0 ∷ 0 ∷ 0 ∷ 0 ∷ 0 ∷ 0x15 ∷ 0x04 ∷ 0x40 ∷ 0 ∷ 0 ∷ 1 ∷ 0 ∷ 0 ∷ 0 ∷ zeros 12)
unfolding kind_verdict kind_after put own_reader check each_from place_of nest_from still_open judge tree_at after_span controlled span_at word_at tree_words
kind_written = (refl, refl, refl, refl)

-- "delimiter kind (0 to 3)"
kind_4 : (kind_verdict lone_root 1 (zeros 6) [] 4 ≡ refused 2 0) × (kind_after lone_root 1 (zeros 6) [] 4 ≡ lone_root)
unfolding kind_verdict kind_after put own_reader check each_from place_of nest_from still_open judge tree_at after_span controlled span_at word_at tree_words
kind_4 = (refl, refl)

-- "33-byte root cut to 20": the check's number, also where what is to be stored is out of range
abbrev cut_root : List ℕ
cut_root = 0x00 ∷ 0x40 ∷ 0 ∷ 0 ∷ 1 ∷ 0 ∷ 0 ∷ 0 ∷ 0 ∷ 0 ∷ 0 ∷ 0 ∷ 0x1D ∷ 0x04 ∷ 0x40 ∷ 0 ∷ 0 ∷ 1 ∷ 0 ∷ 0 ∷ []

cut_refused : (kind_verdict cut_root 1 (zeros 6) [] 0 ≡ refused 7 0) × (kind_verdict cut_root 1 (zeros 6) [] 4 ≡ refused 7 0)
    × (kind_after cut_root 1 (zeros 6) [] 0 ≡ cut_root)
    × (spans_verdict cut_root 1 (zeros 6) [] (given 0 0 0 4294967295 1) (given 0 0 0 0 0) ≡ refused 7 0)
unfolding kind_verdict kind_after spans_verdict put own_reader check each_from place_of nest_from still_open judge tree_at after_span controlled span_at word_at tree_words
cut_refused = (refl, refl, refl, refl)

-- ---- the spans

-- start + length = 4,294,967,296, in either span
spans_too_far : (spans_verdict lone_root 1 (zeros 6) [] (given 1 2 3 4294967295 1) (given 4 5 6 0 0) ≡ refused 2 0)
    × (spans_verdict lone_root 1 (zeros 6) [] (given 1 2 3 0 0) (given 4 5 6 1 4294967295) ≡ refused 2 0)
    × (spans_after lone_root 1 (zeros 6) [] (given 1 2 3 0 0) (given 4 5 6 1 4294967295) ≡ lone_root)
    × (parts_after lone_root 1 (zeros 6) [] (given 1 2 3 0 0) (given 4 5 6 1 4294967295) ≡ zeros 6)
unfolding spans_verdict spans_after parts_after put own_reader check each_from place_of nest_from still_open judge tree_at after_span controlled span_at word_at tree_words
spans_too_far = (refl, refl, refl, refl)

-- "Invisible root of zeros (parts 1, 2) around that `+`, three parts"
abbrev root_plus : List ℕ
root_plus =
    0x04 ∷ 0x40 ∷ 0 ∷ 0 ∷ 1 ∷ 0 ∷ 0 ∷ 0 ∷ 0 ∷ 0 ∷ 0 ∷ 0 ∷ 0x1D ∷ 0x08 ∷ 0x40 ∷ 0 ∷ 0 ∷ 1 ∷ 0 ∷ 0 ∷ 0 ∷ 0 ∷ 0 ∷ 0 ∷ 0 ∷ 1 ∷ 0 ∷ 0 ∷ 0 ∷ 5 ∷ 0 ∷ 0 ∷ 0
    ∷ 0x41 ∷ 0x00 ∷ 0x05 ∷ 0x00 ∷ 0x56 ∷ []

abbrev open₁ : WordSpan
open₁ = given 11 12 13 0x12345678 0xABCDEF

-- start + length = 4,294,967,295
abbrev close₁ : WordSpan
close₁ = given 14 15 16 0xFFFFFF00 0xFF

-- in hex, open: first word 1 × 4 + EF × 40 + 4000 + 5678 × 8000 = 2B3C7BC4; left of length ABCD, of start 91A, of index 0;
-- second word 1 + AB × 2 + 91A × 20000 = 12340157; third word CD × 1000000.
-- close: 2 × 4 + FF × 40 + 4000 + 1FF00 × 8000 = FF807FC8; left of length 0, of start 7FFF; 1 + 7FFF × 20000 = FFFE0001; 0
spans_written : (spans_verdict root_plus 2 (7 ∷ zeros 8) [] open₁ close₁ ≡ passed)
    × (spans_after root_plus 2 (7 ∷ zeros 8) [] open₁ close₁
    ≡ 0xC4 ∷ 0x7B ∷ 0x3C ∷ 0x2B ∷ 0x57 ∷ 0x01 ∷ 0x34 ∷ 0x12 ∷ 0 ∷ 0 ∷ 0 ∷ 0xCD
    ∷ 0x1D ∷ 0xC8 ∷ 0x7F ∷ 0x80 ∷ 0xFF ∷ 0x01 ∷ 0 ∷ 0xFE ∷ 0xFF ∷ 0 ∷ 0 ∷ 0 ∷ 0
    ∷ 1 ∷ 0 ∷ 0 ∷ 0 ∷ 5 ∷ 0 ∷ 0 ∷ 0 ∷ 0x41 ∷ 0x00 ∷ 0x05 ∷ 0x00 ∷ 0x56 ∷ [])
    × (parts_after root_plus 2 (7 ∷ zeros 8) [] open₁ close₁ ≡ 7 ∷ 0 ∷ 0 ∷ 11 ∷ 12 ∷ 13 ∷ 14 ∷ 15 ∷ 16 ∷ [])
unfolding spans_verdict spans_after parts_after put heavy_bytes own_reader check each_from place_of nest_from still_open judge tree_at after_span controlled span_at word_at tree_words
spans_written = (refl, refl, refl)

-- a lone root over 18 parts: indices 16 and 17 are 0 and 1 in the first word, and 1 × 16 in the third
abbrev root18 : List ℕ
root18 = 0x00 ∷ 0x40 ∷ 0 ∷ 0 ∷ 1 ∷ 0 ∷ 0 ∷ 0 ∷ 1 ∷ 0 ∷ 0 ∷ 0 ∷ 0x1D ∷ 0x04 ∷ 0x40 ∷ 0 ∷ 0 ∷ 1 ∷ 0 ∷ 0 ∷ 0 ∷ 1 ∷ 0 ∷ 0 ∷ 0 ∷ zeros 8

-- in hex, open start 1, length 2: 2 × 40 + 4000 + 1 × 8000 = C080; close start 3, length 0: 1 × 4 + 4000 + 3 × 8000 = 1C004
spans_18 : (spans_after root18 1 (zeros 54) [] (given 1 2 3 1 2) (given 4 5 6 3 0)
    ≡ 0x80 ∷ 0xC0 ∷ 0 ∷ 0 ∷ 1 ∷ 0 ∷ 0 ∷ 0 ∷ 1 ∷ 0 ∷ 0 ∷ 0 ∷ 0x1D ∷ 0x04 ∷ 0xC0 ∷ 0x01 ∷ 0 ∷ 1 ∷ 0 ∷ 0 ∷ 0 ∷ 1 ∷ 0 ∷ 0 ∷ 0 ∷ zeros 8)
    × (parts_after root18 1 (zeros 54) [] (given 1 2 3 1 2) (given 4 5 6 3 0) ≡ zeros 48 ++ (1 ∷ 2 ∷ 3 ∷ 4 ∷ 5 ∷ 6 ∷ []))
unfolding spans_verdict spans_after parts_after put heavy_bytes own_reader check each_from place_of nest_from still_open judge tree_at after_span controlled span_at word_at tree_words
spans_18 = (refl, refl)
