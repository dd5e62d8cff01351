-- Which spans are loose, at the edges of the forms; trees of each form; a whole buffer with three loose spans and its header.
use Prim.Native.Nat.{ℕ}
use mathlib.Core.Path.{◌≡◌, refl, ap, ◌∙◌}
use mathlib.Core.Bool.{Bool, true, false}
use mathlib.Core.List.{List, [], ◌∷◌, ◌++◌}
use lib.ListN.{length}
use Rattle.format.specs.Verdict.{passed, each_from}
use Rattle.format.specs.Word.{word_at, half_at, word_bytes}
use Rattle.format.specs.Span.{Span, SpanRead, span, span_at, symbol_at}
use Rattle.format.specs.Reader.{Reply, got, one, none, refused}
use Rattle.format.specs.Tree.{Raw, punct, ident, literal, subtree, tree_at, after_span, controlled}
use Rattle.format.specs.Nest.{nest_from, still_open}
use Rattle.format.specs.Check.{check, place_of, listing}
use Rattle.format.specs.Walk.{Walk, walk_step}
use Rattle.format.specs.Write.{join, first_word, second_word, heavy_bytes, span_bytes}
use Rattle.format.specs.Loose.{Loose, loose_read, loose_by, loose_after, loose_at, loose_from, reported_shape, reported}
use Rattle.format.specs.LastSpan.{last_for, last_reported}
use Rattle.format.specs.Tables.{tree_words, part_count}
use Rattle.format.specs.Buffer.{judge, word_shape, own_reader, buffer_check}
use Rattle.format.specs.Lister.{digits_for, header, buffer_loose}
use Rattle.format.proofs.Worked.{span_of}
use Rattle.format.proofs.Samples.{three_parts}
use Rattle.format.proofs.Steps.{plus_buffer}

-- ---- spans

-- span and extra bits in four, eight and twelve bytes, whether or not fewer would do
abbrev four : ℕ → Span → List ℕ
four x s = word_bytes (first_word x 0 s)

abbrev eight : ℕ → Span → List ℕ
eight x s = join (word_bytes (first_word x 1 s) ∷ word_bytes (second_word s) ∷ [])

abbrev twelve : ℕ → Span → List ℕ
twelve x s = heavy_bytes x s

-- what is read, and whether it is loose
abbrev told : List ℕ → SpanRead × Bool
told b = (span_at b 0, loose_read 0 (span_at b 0))

in_four : (told (four 0 (span_of 0 0 0)) ≡ (span 0 (span_of 0 0 0) 4, false))
    × (told (four 3 (span_of 15 131071 255)) ≡ (span 3 (span_of 15 131071 255) 4, false))
unfolding span_at word_at span_bytes heavy_bytes
in_four = (refl, refl)

in_eight : (told (eight 0 (span_of 0 0 0)) ≡ (span 0 (span_of 0 0 0) 8, true))
    × (told (eight 3 (span_of 15 131071 255)) ≡ (span 3 (span_of 15 131071 255) 8, true))
    × (told (eight 0 (span_of 16 0 0)) ≡ (span 0 (span_of 16 0 0) 8, false))
    × (told (eight 0 (span_of 0 131072 0)) ≡ (span 0 (span_of 0 131072 0) 8, false))
    × (told (eight 0 (span_of 0 0 256)) ≡ (span 0 (span_of 0 0 256) 8, false))
    × (told (eight 3 (span_of 32767 134217727 262143)) ≡ (span 3 (span_of 32767 134217727 262143) 8, false))
unfolding span_at word_at span_bytes heavy_bytes
in_eight = (refl, refl, refl, refl, refl, refl)

in_twelve : (told (twelve 0 (span_of 0 0 0)) ≡ (span 0 (span_of 0 0 0) 12, true))
    × (told (twelve 0 (span_of 16 131072 256)) ≡ (span 0 (span_of 16 131072 256) 12, true))
    × (told (twelve 3 (span_of 32767 134217727 262143)) ≡ (span 3 (span_of 32767 134217727 262143) 12, true))
    × (told (twelve 0 (span_of 32768 0 0)) ≡ (span 0 (span_of 32768 0 0) 12, false))
    × (told (twelve 0 (span_of 0 134217728 0)) ≡ (span 0 (span_of 0 134217728 0) 12, false))
    × (told (twelve 0 (span_of 0 0 262144)) ≡ (span 0 (span_of 0 0 262144) 12, false))
unfolding span_at word_at span_bytes heavy_bytes
in_twelve = (refl, refl, refl, refl, refl, refl)

-- ---- trees

-- opening, closing, how many
abbrev says : Bool → Bool → ℕ → Loose
says x y n = record { opening = x; closing = y; spans = n }

-- what is read, and the report
abbrev read : List ℕ → Reply Raw × Loose
read b = (tree_at b 0, loose_at b 0)

-- 000: the stored length is the distance. 300 needs eight bytes, though both spans have length 1; 1 does not, and is one span that is stored
distances : (read (eight 0 (span_of 0 5 300) ++ (0x20 ∷ 0 ∷ 0 ∷ [])) ≡ (got (subtree (span_of 0 5 1) (span_of 0 305 1) 0 0) 11 0, says false false 0))
    × (read (eight 0 (span_of 0 5 1) ++ (0 ∷ 0 ∷ 0 ∷ [])) ≡ (got (subtree (span_of 0 5 1) (span_of 0 6 1) 0 0) 11 0, says true true 1))
unfolding tree_at after_span controlled loose_at loose_after loose_by span_at word_at span_bytes heavy_bytes
distances = (refl, refl)

-- 001 and 010: one span is stored
shared : (read (eight 0 (span_of 0 5 2) ++ (0xE1 ∷ 0 ∷ 0 ∷ [])) ≡ (got (subtree (span_of 0 5 2) (span_of 0 12 2) 0 0) 11 0, says true true 1))
    × (read (twelve 0 (span_of 0 5 2) ++ (0x22 ∷ 8 ∷ 0 ∷ 0 ∷ 0 ∷ [])) ≡ (got (subtree (span_of 0 5 2) (span_of 1 13 2) 0 0) 17 0, says true true 1))
    × (read (four 0 (span_of 0 5 2) ++ (0x22 ∷ 8 ∷ 0 ∷ 0 ∷ 0 ∷ [])) ≡ (got (subtree (span_of 0 5 2) (span_of 1 13 2) 0 0) 9 0, says false false 0))
unfolding tree_at after_span controlled loose_at loose_after loose_by span_at word_at half_at span_bytes heavy_bytes
shared = (refl, refl, refl)

-- 101: two are stored. The close span's extra bits are not looked at
abbrev closed : List ℕ → List ℕ → List ℕ
closed s t = s ++ (5 ∷ (t ++ (0 ∷ 0 ∷ 0 ∷ 0 ∷ 0 ∷ 0 ∷ 0 ∷ 0 ∷ [])))

closes : (read (closed (four 0 (span_of 0 8 1)) (four 0 (span_of 0 5 1))) ≡ (got (subtree (span_of 0 8 1) (span_of 0 5 1) 0 0) 17 0, says false false 0))
    × (read (closed (eight 0 (span_of 0 8 1)) (four 3 (span_of 0 5 1))) ≡ (got (subtree (span_of 0 8 1) (span_of 0 5 1) 0 0) 21 0, says true false 1))
    × (read (closed (four 0 (span_of 0 8 1)) (twelve 3 (span_of 0 5 1))) ≡ (got (subtree (span_of 0 8 1) (span_of 0 5 1) 0 0) 25 0, says false true 1))
    × (read (closed (twelve 0 (span_of 0 8 1)) (eight 0 (span_of 0 5 1))) ≡ (got (subtree (span_of 0 8 1) (span_of 0 5 1) 0 0) 29 0, says true true 2))
unfolding tree_at after_span controlled loose_at loose_after loose_by span_at word_at span_bytes heavy_bytes
closes = (refl, refl, refl, refl)

-- leaves have no close span: 110, ASCII, an ident, a short literal and a long one
leaves : (read (eight 0 (span_of 0 5 1) ++ (6 ∷ 0xE9 ∷ 0 ∷ 0 ∷ 0 ∷ [])) ≡ (got (punct (span_of 0 5 1) 0xE9 0) 13 0, says true false 1))
    × (read (eight 1 (span_of 0 10 1) ++ (0x56 ∷ [])) ≡ (got (punct (span_of 0 10 1) 43 0) 9 0, says true false 1))
    × (read (twelve 2 (span_of 0 10 1) ++ (0 ∷ [])) ≡ (got (ident (span_of 0 10 1) 0 0) 13 0, says true false 1))
    × (read (eight 0 (span_of 0 10 1) ++ (0x03 ∷ 0 ∷ [])) ≡ (got (literal (span_of 0 10 1) 0 4 0 0) 10 0, says true false 1))
    × (read (twelve 0 (span_of 0 10 1) ++ (0x57 ∷ 0 ∷ 0 ∷ [])) ≡ (got (literal (span_of 0 10 1) 0 10 0 0) 15 0, says true false 1))
    × (read (four 0 (span_of 0 10 1) ++ (0x57 ∷ 0 ∷ 0 ∷ [])) ≡ (got (literal (span_of 0 10 1) 0 10 0 0) 7 0, says false false 0))
unfolding tree_at after_span controlled loose_at loose_after loose_by span_at symbol_at word_at span_bytes heavy_bytes
leaves = (refl, refl, refl, refl, refl, refl)

-- ---- buffers

-- document 01's example: the root is loose, and not counted
plus_root : (loose_at plus_buffer 0 ≡ says true true 2) × (buffer_loose plus_buffer 2 three_parts [] ≡ 0)
unfolding buffer_loose loose_from loose_at loose_after loose_by place_of own_reader judge tree_words tree_at after_span controlled span_at word_at span_bytes heavy_bytes
plus_root = (refl, refl)

-- an Invisible root around `+` in eight bytes, empty parentheses in 101 whose close span has twelve, and parentheses in 000 whose span has eight around `+`
abbrev loose_bytes : List ℕ
loose_bytes =
    0x04 ∷ 0x40 ∷ 0x00 ∷ 0x00 ∷ 0x01 ∷ 0x00 ∷ 0x00 ∷ 0x00 ∷ 0x00 ∷ 0x00 ∷ 0x00 ∷ 0x00 ∷ 0x1D ∷ 0x08 ∷ 0x40 ∷ 0x00 ∷ 0x00 ∷ 0x01 ∷ 0x00 ∷ 0x00 ∷ 0x00 ∷ 0x00 ∷ 0x00 ∷ 0x00 ∷ 0x00 ∷ 0x04 ∷
    0x00 ∷ 0x00 ∷ 0x00 ∷ 0x32 ∷ 0x00 ∷ 0x00 ∷ 0x00 ∷ 0x41 ∷ 0x40 ∷ 0x05 ∷ 0x00 ∷ 0x00 ∷ 0x00 ∷ 0x00 ∷ 0x00 ∷ 0x56 ∷ 0x40 ∷ 0x80 ∷ 0x05 ∷ 0x00 ∷ 0x05 ∷ 0x40 ∷ 0x40 ∷ 0x06 ∷ 0x00 ∷ 0x01 ∷
    0x00 ∷ 0x00 ∷ 0x00 ∷ 0x00 ∷ 0x00 ∷ 0x00 ∷ 0x00 ∷ 0x00 ∷ 0x00 ∷ 0x00 ∷ 0x00 ∷ 0x00 ∷ 0x00 ∷ 0x00 ∷ 0x00 ∷ 0x80 ∷ 0xC0 ∷ 0x06 ∷ 0x00 ∷ 0x00 ∷ 0x00 ∷ 0x00 ∷ 0x00 ∷ 0x00 ∷ 0x01 ∷ 0x05 ∷
    0x41 ∷ 0x00 ∷ 0x07 ∷ 0x00 ∷ 0x56 ∷ []

loose_passes : buffer_check loose_bytes 5 three_parts [] ≡ passed
unfolding check each_from place_of nest_from still_open own_reader judge tree_words tree_at after_span controlled span_at word_at
loose_passes = refl

loose_three : buffer_loose loose_bytes 5 three_parts [] ≡ 3
unfolding buffer_loose loose_from loose_at loose_after loose_by place_of own_reader judge tree_words tree_at after_span controlled span_at word_at span_bytes heavy_bytes
loose_three = refl

-- "trees 5 bytes 83 parts 3 symbols 0 loose 3"
abbrev header_line : List ℕ
header_line = 116 ∷ 114 ∷ 101 ∷ 101 ∷ 115 ∷ 32 ∷ 53 ∷ 32 ∷ 98 ∷ 121 ∷ 116 ∷ 101 ∷ 115 ∷ 32 ∷ 56 ∷ 51 ∷ 32 ∷ 112 ∷ 97 ∷ 114 ∷ 116 ∷ 115 ∷ 32 ∷ 51 ∷ 32 ∷ 115 ∷ 121 ∷ 109 ∷ 98 ∷ 111 ∷ 108 ∷ 115 ∷ 32 ∷ 48 ∷ 32 ∷ 108 ∷ 111 ∷ 111 ∷ 115 ∷ 101 ∷ 32 ∷ 51 ∷ 10 ∷ []

three_text : header 5 83 3 0 3 ≡ header_line
unfolding digits_for
three_text = refl

loose_header : header 5 (length loose_bytes) (part_count three_parts []) 0 (buffer_loose loose_bytes 5 three_parts []) ≡ header_line
loose_header = ap (header 5 83 3 0) loose_three ∙ three_text

-- each tree's report
abbrev report_at : ℕ → Loose
report_at n = ((listing (reported_shape word_shape) (reported (loose_at loose_bytes) (own_reader loose_bytes 5 three_parts []))).tree n).1

reports : (report_at 0 ≡ says true true 2) × (report_at 1 ≡ says true false 1) × (report_at 2 ≡ says false true 1) × (report_at 3 ≡ says true true 1) × (report_at 4 ≡ says false false 0)
unfolding loose_at loose_after loose_by place_of own_reader judge tree_words tree_at after_span controlled span_at word_at span_bytes heavy_bytes
reports = (refl, refl, refl, refl, refl)

-- byte place, tree number, trees left
abbrev at : ℕ → ℕ → ℕ → Walk
at p n l = record { place = p; number = n; left = l }

-- the last span's: of the whole; of a leaf; of an empty subtree its close's; no tree and a refusal have none
last_reports : (last_reported loose_bytes 5 three_parts [] (at 0 0 5) ≡ one (7 ∷ 0 ∷ 0 ∷ 14 ∷ 1 ∷ [], false))
    × (last_reported loose_bytes 5 three_parts [] (at 33 1 1) ≡ one (7 ∷ 0 ∷ 0 ∷ 10 ∷ 1 ∷ [], true))
    × (last_reported loose_bytes 5 three_parts [] (at 42 2 1) ≡ one (7 ∷ 0 ∷ 0 ∷ 12 ∷ 1 ∷ [], true))
    × (last_reported loose_bytes 5 three_parts [] (at 83 5 0) ≡ none)
    × (last_reported loose_bytes 5 three_parts [] (at 0 0 4) ≡ refused 3 0)
unfolding last_for walk_step loose_at loose_after loose_by own_reader judge tree_words tree_at after_span controlled span_at word_at span_bytes heavy_bytes
last_reports = (refl, refl, refl, refl, refl)
