-- Root rewriting: the kind and the spans of the root are changed in a buffer that passes the check, and nothing else.
use Rattle.std.specs.Prelude.{ℕ, ◌+◌, ◌*◌, ◌-◌, ◌%◌, ◌≤◌, ◌<◌, Bool, ◌&&◌, ◌≡◌, List, [], ◌∷◌, ◌++◌, length, get_or, take, set, leb}
use Rattle.format.specs.Verdict.{Verdict, ◌and_then◌, contents, rule}
use Rattle.format.specs.Word.{byte_at, put}
use Rattle.format.specs.Reader.{Reader}
use Rattle.format.specs.Check.{Admitted, listing}
use Rattle.format.specs.Width.{part_size, open_at, tree_size}
use Rattle.format.specs.Part.{WordSpan, part_words, span_list, indexed}
use Rattle.format.specs.Fields.{span_fits}
use Rattle.format.specs.Tables.{own_mode}
use Rattle.format.specs.Buffer.{word_shape, buffer_check}
use Rattle.format.specs.Write.{heavy_bytes}

-- "Start + length is at most 4,294,967,295.": of a span that is given by its list words
abbrev pub range_fits : WordSpan → Bool
range_fits s = span_fits (indexed 0 s)

-- ---- what is stored

-- "Kind: bits 3 and up of byte 12."
abbrev pub new_kind : List ℕ → ℕ → List ℕ
new_kind b d = put b 12 ((byte_at b 12 % 8 + 8 * d) ∷ [])

-- "Spans: bytes 0 to 11 and 13 to 24": "both spans heavy, control byte at 12, part indices the last two of the table"
abbrev pub new_spans : List ℕ → ℕ → WordSpan → WordSpan → List ℕ
new_spans b root opening closing = put (put b 0 (heavy_bytes 0 (indexed root opening))) 13 (heavy_bytes 0 (indexed (root + 1) closing))

-- "and the last two parts"
abbrev pub new_parts : List ℕ → WordSpan → WordSpan → List ℕ
new_parts parts opening closing =
    put parts (length parts - 2 * part_size) (part_words opening.part ++ part_words closing.part)

-- ---- "Root rewriting: the check's numbers, then 2 at tree 0", and what is lent then

module _ (b : List ℕ) (k : ℕ) (parts symbols : List ℕ) where
  -- "delimiter kind (0 to 3)"
  unfoldable pub kind_verdict : ℕ → Verdict
  kind_verdict d = buffer_check b k parts symbols and_then rule (leb d 3) 2 0

  unfoldable pub kind_after : ℕ → List ℕ
  kind_after d = contents (kind_verdict d) b (new_kind b d)

  module _ (opening closing : WordSpan) where
    unfoldable pub spans_verdict : Verdict
    spans_verdict = buffer_check b k parts symbols and_then rule (range_fits opening && range_fits closing) 2 0

    unfoldable pub spans_after : List ℕ
    spans_after = contents spans_verdict b (new_spans b (own_mode parts symbols).root opening closing)

    unfoldable pub parts_after : List ℕ
    parts_after = contents spans_verdict parts (new_parts parts opening closing)

-- ---- what a rewriting is to do

-- "Kind: bits 3 and up of byte 12", and no other bit of the buffer
pub record OnlyKind (b new : List ℕ) : Type 0 where
  pub size : length new ≡ length b
  pub others : (i : ℕ) → (i ≡ 12 → ⊥) → byte_at new i ≡ byte_at b i
  pub low_bits : byte_at new 12 % 8 ≡ byte_at b 12 % 8

-- "Spans: bytes 0 to 11 and 13 to 24, and the last two parts", and no other byte or part
pub record OnlySpans (b new parts table : List ℕ) : Type 0 where
  pub size : length new ≡ length b
  pub control : byte_at new 12 ≡ byte_at b 12
  pub behind : (i : ℕ) → 25 ≤ i → byte_at new i ≡ byte_at b i
  pub table_size : length table ≡ length parts
  pub others : (i : ℕ) → i + 2 * part_size < length parts → get_or table i 0 ≡ get_or parts i 0

-- the root's words with another kind, which is word 2; with other spans, which are all from word 3 on
abbrev pub with_kind : ℕ → List ℕ → List ℕ
with_kind d w = set w 2 d

abbrev pub with_spans : WordSpan → WordSpan → List ℕ → List ℕ
with_spans opening closing w = take open_at w ++ span_list opening ++ span_list closing

-- the new buffer is admitted too, with as many trees and bytes, the same places and the same trees below the root; w are the words of the new root
pub record RootOnly (old new : Reader (List ℕ)) (w : List ℕ) : Type 0 where
  pub admitted : Admitted word_shape new
  pub trees : new.trees ≡ old.trees
  pub bytes : new.bytes ≡ old.bytes
  pub places : (n : ℕ) → n ≤ old.trees → (listing word_shape new).place n ≡ (listing word_shape old).place n
  pub below : (n : ℕ) → 0 < n → n < old.trees → (listing word_shape new).tree n ≡ (listing word_shape old).tree n
  pub root : (listing word_shape new).tree 0 ≡ w
  pub size : length w ≡ tree_size
