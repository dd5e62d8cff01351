-- Lists written and read by the unmodified source, and what the definitions make of them. Every expected value is the source's answer.
use Prim.Native.Nat.{ℕ, zero, suc, ◌+◌}
use mathlib.Core.Path.{◌≡◌, refl}
use mathlib.Core.Bool.{true, false}
use mathlib.Core.List.{List, [], ◌∷◌, ◌++◌}
use lib.ListN.{take, drop}
use Rattle.format.specs.Verdict.{passed, each_from}
use Rattle.format.specs.Word.{word_at, half_at}
use Rattle.format.specs.Span.{span_at, symbol_at}
use Rattle.format.specs.Nest.{nest_from, still_open}
use Rattle.format.specs.Tree.{subtree, tree_at, after_span, controlled}
use Rattle.format.specs.Check.{check, place_of, listing}
use Rattle.format.specs.Write.{tree_bytes, literal_bytes, subtree_bytes, span_bytes, symbol_bytes, heavy_bytes, root_bytes, suffixes, work_words}
use Rattle.format.specs.Tables.{tree_words}
use Rattle.format.specs.Buffer.{judge, word_shape, own_reader, buffer_check}
use Rattle.format.specs.WordList.{raw_from, list_rules}
use Rattle.format.specs.Writer.{find, raws, trees, packed, list_verdict}
use Rattle.format.specs.Pack.{span_form}
use Rattle.format.proofs.Worked.{span_of}

-- ---- spans and symbols at the edges of their forms

spans : (span_form false 0 (span_of 15 131071 255) ≡ 0xFC ∷ 0xBF ∷ 0xFF ∷ 0xFF ∷ [])
    × (span_form false 0 (span_of 16 0 0) ≡ 0x00 ∷ 0x40 ∷ 0x00 ∷ 0x00 ∷ 0x02 ∷ 0x00 ∷ 0x00 ∷ 0x00 ∷ [])
    × (span_form false 0 (span_of 0 131072 0) ≡ 0x00 ∷ 0x40 ∷ 0x00 ∷ 0x00 ∷ 0x00 ∷ 0x00 ∷ 0x40 ∷ 0x00 ∷ [])
    × (span_form false 0 (span_of 0 0 256) ≡ 0x00 ∷ 0x40 ∷ 0x00 ∷ 0x00 ∷ 0x00 ∷ 0x10 ∷ 0x00 ∷ 0x00 ∷ [])
    × (span_form false 3 (span_of 32767 134217727 262143) ≡ 0xFF ∷ 0xFF ∷ 0xFF ∷ 0xFF ∷ 0xFE ∷ 0xFF ∷ 0xFF ∷ 0xFF ∷ [])
    × (span_form false 0 (span_of 32768 0 0) ≡ 0x00 ∷ 0x40 ∷ 0x00 ∷ 0x00 ∷ 0x01 ∷ 0x00 ∷ 0x00 ∷ 0x00 ∷ 0x00 ∷ 0x08 ∷ 0x00 ∷ 0x00 ∷ [])
    × (span_form false 0 (span_of 0 134217728 0) ≡ 0x00 ∷ 0x40 ∷ 0x00 ∷ 0x00 ∷ 0x01 ∷ 0x00 ∷ 0x00 ∷ 0x08 ∷ 0x00 ∷ 0x00 ∷ 0x00 ∷ 0x00 ∷ [])
    × (span_form false 0 (span_of 0 0 262144) ≡ 0x00 ∷ 0x40 ∷ 0x00 ∷ 0x00 ∷ 0x09 ∷ 0x00 ∷ 0x00 ∷ 0x00 ∷ 0x00 ∷ 0x00 ∷ 0x00 ∷ 0x00 ∷ [])
    × (span_form false 3 (span_of 268435455 4294967295 0) ≡ 0x3F ∷ 0xC0 ∷ 0xFF ∷ 0xFF ∷ 0x01 ∷ 0x00 ∷ 0xFE ∷ 0xFF ∷ 0xFF ∷ 0xFF ∷ 0xFF ∷ 0x00 ∷ [])
    × (span_form true 3 (span_of 268435455 0 4294967295) ≡ 0xFF ∷ 0x7F ∷ 0x00 ∷ 0x00 ∷ 0xFF ∷ 0xFF ∷ 0x01 ∷ 0x00 ∷ 0xFF ∷ 0xFF ∷ 0xFF ∷ 0xFF ∷ [])
    × (span_form true 0 (span_of 0 0 0) ≡ 0x00 ∷ 0x40 ∷ 0x00 ∷ 0x00 ∷ 0x01 ∷ 0x00 ∷ 0x00 ∷ 0x00 ∷ 0x00 ∷ 0x00 ∷ 0x00 ∷ 0x00 ∷ [])
unfolding span_bytes heavy_bytes
spans = (refl, refl, refl, refl, refl, refl, refl, refl, refl, refl, refl)

symbols : (symbol_bytes 1 63 ≡ 0xFD ∷ [])
    × (symbol_bytes 1 64 ≡ 0x03 ∷ 0x02 ∷ [])
    × (symbol_bytes 0 8191 ≡ 0xFE ∷ 0xFE ∷ [])
    × (symbol_bytes 0 8192 ≡ 0x02 ∷ 0x01 ∷ 0x01 ∷ 0x00 ∷ [])
    × (symbol_bytes 1 536870911 ≡ 0xFF ∷ 0xFF ∷ 0xFF ∷ 0xFF ∷ [])
unfolding symbol_bytes
symbols = (refl, refl, refl, refl, refl)

-- ---- one subtree: open start, close start, length; forms 000, 001, 010 and 101

subtrees : (tree_bytes 1 (subtree (span_of 0 5 1) (span_of 0 2052 1) 0 0) 0 ≡ 0xC0 ∷ 0xFF ∷ 0x02 ∷ 0x00 ∷ 0x00 ∷ 0x70 ∷ 0x00 ∷ 0x00 ∷ 0xE0 ∷ 0x00 ∷ 0x00 ∷ [])
    × (tree_bytes 1 (subtree (span_of 0 5 1) (span_of 0 2053 1) 0 0) 0 ≡ 0x40 ∷ 0x80 ∷ 0x02 ∷ 0x00 ∷ 0x05 ∷ 0x40 ∷ 0x80 ∷ 0x02 ∷ 0x04 ∷ 0x00 ∷ 0x00 ∷ 0x00 ∷ 0x00 ∷ 0x00 ∷ 0x00 ∷ 0x00 ∷ 0x00 ∷ [])
    × (tree_bytes 1 (subtree (span_of 0 8 1) (span_of 0 5 1) 0 0) 0 ≡ 0x40 ∷ 0x00 ∷ 0x04 ∷ 0x00 ∷ 0x05 ∷ 0x40 ∷ 0x80 ∷ 0x02 ∷ 0x00 ∷ 0x00 ∷ 0x00 ∷ 0x00 ∷ 0x00 ∷ 0x00 ∷ 0x00 ∷ 0x00 ∷ 0x00 ∷ [])
    × (tree_bytes 1 (subtree (span_of 0 5 1) (span_of 0 5 1) 0 0) 0 ≡ 0x00 ∷ 0x80 ∷ 0x02 ∷ 0x00 ∷ 0x00 ∷ 0x00 ∷ 0x00 ∷ [])
    × (tree_bytes 1 (subtree (span_of 0 5 2) (span_of 0 12 2) 0 0) 0 ≡ 0x80 ∷ 0x80 ∷ 0x02 ∷ 0x00 ∷ 0xE1 ∷ 0x00 ∷ 0x00 ∷ [])
    × (tree_bytes 1 (subtree (span_of 0 5 2) (span_of 0 260 2) 0 0) 0 ≡ 0x80 ∷ 0x80 ∷ 0x02 ∷ 0x00 ∷ 0x02 ∷ 0xFF ∷ 0x00 ∷ 0x00 ∷ 0x00 ∷ [])
    × (tree_bytes 1 (subtree (span_of 0 5 2) (span_of 0 261 2) 0 0) 0 ≡ 0x80 ∷ 0x80 ∷ 0x02 ∷ 0x00 ∷ 0x05 ∷ 0x80 ∷ 0x80 ∷ 0x82 ∷ 0x00 ∷ 0x00 ∷ 0x00 ∷ 0x00 ∷ 0x00 ∷ 0x00 ∷ 0x00 ∷ 0x00 ∷ 0x00 ∷ [])
    × (tree_bytes 1 (subtree (span_of 0 5 1) (span_of 0 260 1) 0 0) 0 ≡ 0xC0 ∷ 0xBF ∷ 0x02 ∷ 0x00 ∷ 0x00 ∷ 0x00 ∷ 0x00 ∷ [])
    × (tree_bytes 1 (subtree (span_of 0 5 1) (span_of 0 261 1) 0 0) 0 ≡ 0x00 ∷ 0xC0 ∷ 0x02 ∷ 0x00 ∷ 0x00 ∷ 0x10 ∷ 0x00 ∷ 0x00 ∷ 0x20 ∷ 0x00 ∷ 0x00 ∷ [])
    × (tree_bytes 1 (subtree (span_of 0 0 0) (span_of 0 4294967295 0) 0 0) 0 ≡ 0x00 ∷ 0x00 ∷ 0x00 ∷ 0x00 ∷ 0x05 ∷ 0x00 ∷ 0xC0 ∷ 0xFF ∷ 0xFF ∷ 0x01 ∷ 0x00 ∷ 0xFE ∷ 0xFF ∷ 0x00 ∷ 0x00 ∷ 0x00 ∷ 0x00 ∷ 0x00 ∷ 0x00 ∷ 0x00 ∷ 0x00 ∷ 0x00 ∷ 0x00 ∷ 0x00 ∷ 0x00 ∷ [])
unfolding tree_bytes subtree_bytes span_bytes heavy_bytes
subtrees = (refl, refl, refl, refl, refl, refl, refl, refl, refl, refl)

-- ---- parentheses around 51 and 52 puncts of five bytes

-- j times these words
unfoldable pub copies : ℕ → List ℕ → List ℕ
copies zero w = []
copies (suc j) w = w ++ copies j w

abbrev pub three_parts : List ℕ
three_parts = 7 ∷ 0 ∷ 0 ∷ 1 ∷ 0 ∷ 0 ∷ 2 ∷ 0 ∷ 0 ∷ []

-- root, parentheses, j puncts
abbrev puncts : ℕ → List ℕ
puncts j =
    (3 ∷ (j + 1) ∷ 3 ∷ 1 ∷ 0 ∷ 0 ∷ 0 ∷ 0 ∷ 2 ∷ 0 ∷ 0 ∷ 0 ∷ 0 ∷ 3 ∷ j ∷ 0 ∷ 7 ∷ 0 ∷ 0 ∷ 5 ∷ 1 ∷ 7 ∷ 0 ∷ 0 ∷ 8 ∷ 1 ∷ []) ++
    copies j (0 ∷ 43 ∷ 0 ∷ 7 ∷ 0 ∷ 0 ∷ 10 ∷ 1 ∷ 0 ∷ 0 ∷ 0 ∷ 0 ∷ 0 ∷ [])

fifty_one : take 48 (packed three_parts [] (puncts 51)) ≡ 0x04 ∷ 0x40 ∷ 0x00 ∷ 0x00 ∷ 0x01 ∷ 0x00 ∷ 0x00 ∷ 0x00 ∷ 0x00 ∷ 0x00 ∷ 0x00 ∷ 0x00 ∷ 0x1D ∷ 0x08 ∷ 0x40 ∷ 0x00 ∷ 0x00 ∷ 0x01 ∷ 0x00 ∷ 0x00 ∷ 0x00 ∷ 0x00 ∷ 0x00 ∷ 0x00 ∷ 0x00 ∷ 0x34 ∷
    0x00 ∷ 0x00 ∷ 0x00 ∷ 0x06 ∷ 0x01 ∷ 0x00 ∷ 0x00 ∷ 0xC0 ∷ 0x80 ∷ 0x02 ∷ 0x00 ∷ 0x00 ∷ 0x33 ∷ 0xFF ∷ 0x41 ∷ 0x00 ∷ 0x05 ∷ 0x00 ∷ 0x56 ∷ 0x41 ∷ 0x00 ∷ 0x05 ∷ []
unfolding copies raws raw_from find suffixes tree_bytes subtree_bytes root_bytes heavy_bytes span_bytes
fifty_one = refl

fifty_two : take 48 (packed three_parts [] (puncts 52)) ≡ 0x04 ∷ 0x40 ∷ 0x00 ∷ 0x00 ∷ 0x01 ∷ 0x00 ∷ 0x00 ∷ 0x00 ∷ 0x00 ∷ 0x00 ∷ 0x00 ∷ 0x00 ∷ 0x1D ∷ 0x08 ∷ 0x40 ∷ 0x00 ∷ 0x00 ∷ 0x01 ∷ 0x00 ∷ 0x00 ∷ 0x00 ∷ 0x00 ∷ 0x00 ∷ 0x00 ∷ 0x00 ∷ 0x35 ∷
    0x00 ∷ 0x00 ∷ 0x00 ∷ 0x0D ∷ 0x01 ∷ 0x00 ∷ 0x00 ∷ 0x40 ∷ 0x80 ∷ 0x02 ∷ 0x00 ∷ 0x02 ∷ 0x03 ∷ 0x34 ∷ 0x40 ∷ 0x10 ∷ 0x41 ∷ 0x00 ∷ 0x05 ∷ 0x00 ∷ 0x56 ∷ 0x41 ∷ []
unfolding copies raws raw_from find suffixes tree_bytes subtree_bytes root_bytes heavy_bytes span_bytes
fifty_two = refl

-- ---- ten trees: a raw ident, five literals, two characters outside ASCII, an empty subtree whose parts differ

abbrev pub four_parts : List ℕ
four_parts = 7 ∷ 0 ∷ 0 ∷ 8 ∷ 0 ∷ 0 ∷ 1 ∷ 0 ∷ 0 ∷ 2 ∷ 0 ∷ 0 ∷ []

abbrev pub hundred_symbols : List ℕ
hundred_symbols =
    100 ∷ 101 ∷ 102 ∷ 103 ∷ 104 ∷ 105 ∷ 106 ∷ 107 ∷ 108 ∷ 109 ∷ 110 ∷ 111 ∷ 112 ∷ 113 ∷ 114 ∷ 115 ∷ 116 ∷ 117 ∷ 118 ∷ 119 ∷ 120 ∷ 121 ∷ 122 ∷ 123 ∷ 124 ∷ 125 ∷
    126 ∷ 127 ∷ 128 ∷ 129 ∷ 130 ∷ 131 ∷ 132 ∷ 133 ∷ 134 ∷ 135 ∷ 136 ∷ 137 ∷ 138 ∷ 139 ∷ 140 ∷ 141 ∷ 142 ∷ 143 ∷ 144 ∷ 145 ∷ 146 ∷ 147 ∷ 148 ∷ 149 ∷ 150 ∷ 151 ∷
    152 ∷ 153 ∷ 154 ∷ 155 ∷ 156 ∷ 157 ∷ 158 ∷ 159 ∷ 160 ∷ 161 ∷ 162 ∷ 163 ∷ 164 ∷ 165 ∷ 166 ∷ 167 ∷ 168 ∷ 169 ∷ 170 ∷ 171 ∷ 172 ∷ 173 ∷ 174 ∷ 175 ∷ 176 ∷ 177 ∷
    178 ∷ 179 ∷ 180 ∷ 181 ∷ 182 ∷ 183 ∷ 184 ∷ 185 ∷ 186 ∷ 187 ∷ 188 ∷ 189 ∷ 190 ∷ 191 ∷ 192 ∷ 193 ∷ 194 ∷ 195 ∷ 196 ∷ 197 ∷ 198 ∷ 199 ∷ []

abbrev pub ten_trees : List ℕ
ten_trees =
    3 ∷ 9 ∷ 3 ∷ 1 ∷ 0 ∷ 0 ∷ 0 ∷ 0 ∷ 2 ∷ 0 ∷ 0 ∷ 0 ∷ 0 ∷ 3 ∷ 8 ∷ 1 ∷ 7 ∷ 0 ∷ 0 ∷ 5 ∷ 1 ∷ 7 ∷ 0 ∷ 0 ∷ 90 ∷ 1 ∷
    1 ∷ 170 ∷ 1 ∷ 7 ∷ 0 ∷ 0 ∷ 10 ∷ 4 ∷ 0 ∷ 0 ∷ 0 ∷ 0 ∷ 0 ∷ 2 ∷ 100 ∷ 1048580 ∷ 7 ∷ 0 ∷ 0 ∷ 20 ∷ 18 ∷ 0 ∷ 0 ∷ 0 ∷ 0 ∷ 0 ∷
    2 ∷ 163 ∷ 983301 ∷ 7 ∷ 0 ∷ 0 ∷ 40 ∷ 20 ∷ 0 ∷ 0 ∷ 0 ∷ 0 ∷ 0 ∷ 2 ∷ 164 ∷ 65287 ∷ 7 ∷ 0 ∷ 0 ∷ 60 ∷ 2 ∷ 0 ∷ 0 ∷ 0 ∷ 0 ∷ 0 ∷
    2 ∷ 199 ∷ 10 ∷ 8 ∷ 0 ∷ 0 ∷ 70 ∷ 1 ∷ 0 ∷ 0 ∷ 0 ∷ 0 ∷ 0 ∷ 0 ∷ 233 ∷ 2 ∷ 7 ∷ 0 ∷ 0 ∷ 72 ∷ 1 ∷ 0 ∷ 0 ∷ 0 ∷ 0 ∷ 0 ∷
    0 ∷ 1114111 ∷ 1 ∷ 7 ∷ 0 ∷ 0 ∷ 74 ∷ 1 ∷ 0 ∷ 0 ∷ 0 ∷ 0 ∷ 0 ∷ 3 ∷ 0 ∷ 0 ∷ 7 ∷ 0 ∷ 0 ∷ 80 ∷ 1 ∷ 8 ∷ 0 ∷ 0 ∷ 83 ∷ 1 ∷ []

abbrev pub ten_bytes : List ℕ
ten_bytes =
    0x08 ∷ 0x40 ∷ 0x00 ∷ 0x00 ∷ 0x01 ∷ 0x00 ∷ 0x00 ∷ 0x00 ∷ 0x00 ∷ 0x00 ∷ 0x00 ∷ 0x00 ∷ 0x1D ∷ 0x0C ∷ 0x40 ∷ 0x00 ∷ 0x00 ∷ 0x01 ∷ 0x00 ∷ 0x00 ∷ 0x00 ∷ 0x00 ∷ 0x00 ∷ 0x00 ∷ 0x00 ∷ 0x09 ∷
    0x00 ∷ 0x00 ∷ 0x00 ∷ 0x46 ∷ 0x00 ∷ 0x00 ∷ 0x00 ∷ 0x40 ∷ 0x95 ∷ 0x02 ∷ 0x00 ∷ 0x08 ∷ 0x08 ∷ 0x3F ∷ 0x02 ∷ 0x01 ∷ 0x05 ∷ 0x00 ∷ 0x1B ∷ 0x02 ∷ 0x80 ∷ 0x04 ∷ 0x0A ∷ 0x00 ∷ 0x27 ∷ 0x10 ∷
    0x00 ∷ 0x00 ∷ 0x05 ∷ 0x14 ∷ 0x00 ∷ 0xFB ∷ 0xFC ∷ 0x80 ∷ 0x00 ∷ 0x1E ∷ 0x00 ∷ 0x3F ∷ 0xFF ∷ 0x00 ∷ 0x02 ∷ 0x02 ∷ 0x44 ∷ 0x00 ∷ 0x23 ∷ 0x00 ∷ 0x57 ∷ 0x00 ∷ 0x8E ∷ 0x02 ∷ 0x40 ∷ 0x00 ∷
    0x24 ∷ 0x00 ∷ 0x16 ∷ 0xE9 ∷ 0x00 ∷ 0x00 ∷ 0x00 ∷ 0x40 ∷ 0x00 ∷ 0x25 ∷ 0x00 ∷ 0x0E ∷ 0xFF ∷ 0xFF ∷ 0x10 ∷ 0x00 ∷ 0x40 ∷ 0x00 ∷ 0x28 ∷ 0x00 ∷ 0x22 ∷ 0x03 ∷ 0x00 ∷ 0x00 ∷ 0x00 ∷ []

ten_written : (list_verdict four_parts hundred_symbols ten_trees ≡ passed)
    × (packed four_parts hundred_symbols ten_trees ≡ ten_bytes)
    × (work_words (trees four_parts hundred_symbols ten_trees) ≡ 103 ∷ 70 ∷ 63 ∷ 57 ∷ 50 ∷ 44 ∷ 35 ∷ 27 ∷ 18 ∷ 9 ∷ 0 ∷ [])
unfolding list_verdict list_rules each_from nest_from still_open raws raw_from find suffixes tree_bytes literal_bytes subtree_bytes root_bytes heavy_bytes span_bytes symbol_bytes
ten_written = (refl, refl, refl)

ten_read : (buffer_check ten_bytes 10 four_parts hundred_symbols ≡ passed)
    × (place_of word_shape (own_reader ten_bytes 10 four_parts hundred_symbols) 9 ≡ 94)
    × ((listing word_shape (own_reader ten_bytes 10 four_parts hundred_symbols)).tree 4 ≡ take 13 (drop 52 ten_trees))
    × ((listing word_shape (own_reader ten_bytes 10 four_parts hundred_symbols)).tree 8 ≡ take 13 (drop 104 ten_trees))
    × ((listing word_shape (own_reader ten_bytes 10 four_parts hundred_symbols)).tree 9 ≡ drop 117 ten_trees)
unfolding check each_from place_of nest_from still_open own_reader judge tree_words tree_at after_span controlled span_at symbol_at word_at half_at
ten_read = (refl, refl, refl, refl, refl)
