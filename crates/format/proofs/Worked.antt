-- Document 01's starred bytes, written and read, as one theorem about the definitions.
use Prim.Native.Nat.{ℕ}
use mathlib.Core.Path.{◌≡◌, refl}
use mathlib.Core.List.{List, [], ◌∷◌}
use Rattle.format.specs.Word.{word_at, half_at}
use Rattle.format.specs.Span.{Span, span, span_at, symbol, symbol_at}
use Rattle.format.specs.Reader.{got}
use Rattle.format.specs.Tree.{punct, subtree, tree_at, after_span, controlled}
use Rattle.format.specs.Write.{tree_bytes, subtree_bytes, span_bytes, symbol_bytes, heavy_bytes, root_bytes, suffixes}
use Rattle.format.specs.WordList.{raw_from}
use Rattle.format.specs.Writer.{packed, raws}

-- index, start, length
abbrev pub span_of : ℕ → ℕ → ℕ → Span
span_of i s l = record { index = i; start = s; len = l }

-- "Lone Invisible root, spans 0 and 0, two parts"
abbrev pub lone_root : List ℕ
lone_root =
    0x00 ∷ 0x40 ∷ 0x00 ∷ 0x00 ∷ 0x01 ∷ 0x00 ∷ 0x00 ∷ 0x00 ∷ 0x00 ∷ 0x00 ∷ 0x00 ∷ 0x00 ∷ 0x1D ∷
    0x04 ∷ 0x40 ∷ 0x00 ∷ 0x00 ∷ 0x01 ∷ 0x00 ∷ 0x00 ∷ 0x00 ∷ 0x00 ∷ 0x00 ∷ 0x00 ∷ 0x00 ∷ 0x00 ∷ 0x00 ∷ 0x00 ∷ 0x00 ∷ 0x00 ∷ 0x00 ∷ 0x00 ∷ 0x00 ∷ []

-- two parts of zeros, and the words of that root
abbrev pub two_parts : List ℕ
two_parts = 0 ∷ 0 ∷ 0 ∷ 0 ∷ 0 ∷ 0 ∷ []

abbrev pub root_words : List ℕ
root_words = 3 ∷ 0 ∷ 3 ∷ 0 ∷ 0 ∷ 0 ∷ 0 ∷ 0 ∷ 0 ∷ 0 ∷ 0 ∷ 0 ∷ 0 ∷ []

-- "`+` Alone, part 0, start 10, length 1"
abbrev pub plus : List ℕ
plus = 0x41 ∷ 0x00 ∷ 0x05 ∷ 0x00 ∷ 0x56 ∷ []

-- "Empty parentheses, part 0, open 5 length 1: close 8"; "Length 2: close 13"
abbrev pub parens : List ℕ
parens = 0xC0 ∷ 0x80 ∷ 0x02 ∷ 0x00 ∷ 0x00 ∷ 0x00 ∷ 0x00 ∷ []

abbrev pub wide_parens : List ℕ
wide_parens = 0x80 ∷ 0x80 ∷ 0x02 ∷ 0x00 ∷ 0x02 ∷ 0x08 ∷ 0x00 ∷ 0x00 ∷ 0x00 ∷ []

-- "Spans of zeros but index 16"
abbrev pub sixteen : List ℕ
sixteen = 0x00 ∷ 0x40 ∷ 0x00 ∷ 0x00 ∷ 0x02 ∷ 0x00 ∷ 0x00 ∷ 0x00 ∷ []

pub worked : (packed two_parts [] root_words ≡ lone_root)
    × (tree_at lone_root 0 ≡ got (subtree (span_of 0 0 0) (span_of 1 0 0) 0 3) 33 0)
    × (tree_bytes 1 (punct (span_of 0 10 1) 43 0) 0 ≡ plus)
    × (tree_at plus 0 ≡ got (punct (span_of 0 10 1) 43 0) 5 0)
    × (symbol_bytes 0 63 ≡ 0xFC ∷ [])
    × (symbol_bytes 0 64 ≡ 0x02 ∷ 0x02 ∷ [])
    × (symbol_bytes 0 8192 ≡ 0x02 ∷ 0x01 ∷ 0x01 ∷ 0x00 ∷ [])
    × (symbol_at (0xFC ∷ []) 0 ≡ symbol 0 63 1)
    × (symbol_at (0x02 ∷ 0x02 ∷ []) 0 ≡ symbol 0 64 2)
    × (symbol_at (0x02 ∷ 0x01 ∷ 0x01 ∷ 0x00 ∷ []) 0 ≡ symbol 0 8192 4)
    × (span_bytes 0 (span_of 16 0 0) ≡ sixteen)
    × (span_at sixteen 0 ≡ span 0 (span_of 16 0 0) 8)
    × (tree_bytes 1 (subtree (span_of 0 5 1) (span_of 0 8 1) 0 0) 0 ≡ parens)
    × (tree_at parens 0 ≡ got (subtree (span_of 0 5 1) (span_of 0 8 1) 0 0) 7 0)
    × (tree_bytes 1 (subtree (span_of 0 5 2) (span_of 0 13 2) 0 0) 0 ≡ wide_parens)
    × (tree_at wide_parens 0 ≡ got (subtree (span_of 0 5 2) (span_of 0 13 2) 0 0) 9 0)
unfolding raws raw_from suffixes tree_bytes subtree_bytes root_bytes heavy_bytes span_bytes symbol_bytes tree_at after_span controlled span_at symbol_at word_at half_at
worked = (refl, refl, refl, refl, refl, refl, refl, refl, refl, refl, refl, refl, refl, refl, refl, refl)
