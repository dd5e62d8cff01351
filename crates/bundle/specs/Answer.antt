-- What reading a bundle answers, case by case: its counts and the place of its bytes, which are its last.
use Rattle.std.specs.Prelude.{ℕ, Option, Some, None, ◌+◌, ◌-◌, ◌/◌, Bool, ◌&&◌, List, leb, length, if◌then◌else◌}
use Rattle.format.specs.Word.{word_at}
use Rattle.format.specs.Width.{part_size}
use Rattle.format.specs.Bundle as format
use Rattle.bundle.specs.declared.read.Contents.{Contents}

-- a record that begins with S: its mark's second byte is y, and its n bytes stand whole at place p
unfoldable pub is_entry : List ℕ → ℕ → ℕ → ℕ → Bool
is_entry b y n p = format.marked b 0x53 y p && leb (p + n) (length b)

-- "`SP` and 12 bytes for one part": its words, four bytes each
unfoldable pub read_answer : List ℕ → format.BundleRead → Option Contents
read_answer b (format.bundle B) =
    Some (record { trees = B.trees; parts = length B.parts / part_size; symbols = length B.symbols; start = length b - length B.bytes })
read_answer b format.bad_bundle = None

-- the refusal's number of each case, 0 for none: "bad bundle" is 1
abbrev pub read_number : Option Contents → ℕ
read_number (Some y) = 0
read_number None = 1

-- what the record at place p answers, behind so many parts and symbols, where it is none of those
unfoldable pub last_answer : List ℕ → ℕ → ℕ → ℕ → Option Contents
last_answer b parts symbols p =
    if format.is_last_record b p
    then Some (record { trees = word_at b (p + 2); parts = parts; symbols = symbols; start = p + 10 })
    else None
