-- The bundle: a stored buffer with its tables and tree count in one run of bytes, and the check's number that a host receives.
use Rattle.std.specs.Prelude.{ℕ, zero, suc, ◌+◌, ◌*◌, Bool, ◌&&◌, ◌||◌, List, [], ◌∷◌, ◌++◌, length, drop, leb, eqb, if◌then◌else◌}
use Rattle.format.specs.Verdict.{Verdict, passed, refused}
use Rattle.format.specs.Word.{byte_at, word_at}
use Rattle.format.specs.Width.{part_size}
use Rattle.format.specs.Part.{part_words, part_from}
use Rattle.format.specs.Buffer.{buffer_check}

pub record Bundle : Type 0 where
  pub parts : List ℕ
  pub symbols : List ℕ
  pub trees : ℕ
  pub bytes : List ℕ

pub data BundleRead : Type 0 where
  bundle : Bundle → BundleRead
  bad_bundle : BundleRead

-- "`SP` and 12 bytes for one part": with its mark
abbrev pub part_bytes : ℕ
part_bytes = 2 + 4 * part_size

module _ (b : List ℕ) where
  -- "Each record has a two-byte mark": these two bytes at place p
  abbrev pub marked : ℕ → ℕ → ℕ → Bool
  marked x y p = leb (p + 2) (length b) && eqb (byte_at b p) x && eqb (byte_at b (p + 1)) y

  -- "`SP` and 12 bytes for one part, `SY` and 4 for one symbol": whether one stands whole at place p, its words, and the place behind it
  abbrev pub is_part_record : ℕ → Bool
  is_part_record p = marked 0x53 0x50 p && leb (p + part_bytes) (length b)

  abbrev pub is_symbol_record : ℕ → Bool
  is_symbol_record p = marked 0x53 0x59 p && leb (p + 6) (length b)

  abbrev pub part_record : ℕ → List ℕ
  part_record p = if is_part_record p then part_words (part_from (λ j. word_at b (p + (2 + 4 * j))) 0) else []

  abbrev pub symbol_record : ℕ → List ℕ
  symbol_record p = if is_symbol_record p then word_at b (p + 2) ∷ [] else []

  abbrev pub behind : ℕ → ℕ
  behind p = if is_part_record p then p + part_bytes else p + 6

  -- "last `BT`, tree count, byte count, bytes"; "an early end or bytes after the last are bad"
  abbrev pub is_last_record : ℕ → Bool
  is_last_record p = marked 0x42 0x54 p && leb (p + 10) (length b) && eqb (p + 10 + word_at b (p + 6)) (length b)

  abbrev pub last_record : List ℕ → List ℕ → ℕ → BundleRead
  last_record parts symbols p =
      if is_last_record p then bundle (record { parts = parts; symbols = symbols; trees = word_at b (p + 2); bytes = drop (p + 10) b }) else bad_bundle

  -- the records from place p on, behind these parts and symbols, "in any order"; f bounds how many
  unfoldable pub records : ℕ → List ℕ → List ℕ → ℕ → BundleRead
  records zero parts symbols p = bad_bundle
  records (suc f) parts symbols p =
      if is_part_record p || is_symbol_record p
      then records f (parts ++ part_record p) (symbols ++ symbol_record p) (behind p)
      else last_record parts symbols p

  abbrev pub bundle_at : BundleRead
  bundle_at = records (length b) [] [] 0

-- row 1: "bad bundle"
abbrev pub check_of : BundleRead → Verdict
check_of (bundle B) = buffer_check B.bytes B.trees B.parts B.symbols
check_of bad_bundle = refused 1 0

abbrev pub bundle_check : List ℕ → Verdict
bundle_check b = check_of (bundle_at b)

-- "receives the check's number, 0 for passed"
abbrev pub number_of : Verdict → ℕ
number_of passed = 0
number_of (refused r n) = r
