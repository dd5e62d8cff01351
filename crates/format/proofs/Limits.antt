-- Each constant of document 01's bounds at its limit and one past it, computed by the checker.
use mathlib.Core.Bool.{true, false}
use mathlib.Core.Path.{◌≡◌, refl}
use mathlib.Core.List.{[]}
use Rattle.format.specs.Fields.{span_fits, is_scalar, fields}
use Rattle.format.specs.Tree.{punct, ident, literal, subtree}
use Rattle.format.specs.Tables.{tables_sized, row_eight, own_limits, count_rules}
use Rattle.format.specs.Buffer.{raw_reader}
use Rattle.format.specs.Write.{fits000, fits001, fits010}
use Rattle.format.proofs.Worked.{span_of}

-- "scalar values: 0 to D7FF, E000 to 10FFFF hex"
scalars : (is_scalar 0 ≡ true) × (is_scalar 0xD7FF ≡ true) × (is_scalar 0xD800 ≡ false) × (is_scalar 0xDFFF ≡ false) × (is_scalar 0xE000 ≡ true) × (is_scalar 0x10FFFF ≡ true) × (is_scalar 0x110000 ≡ false)
scalars = (refl, refl, refl, refl, refl, refl, refl)

-- "Start + length is at most 4,294,967,295."
ranges : (span_fits (span_of 0 4294967295 0) ≡ true) × (span_fits (span_of 0 0 4294967295) ≡ true) × (span_fits (span_of 0 4294967295 1) ≡ false) × (span_fits (span_of 0 1 4294967295) ≡ false)
ranges = (refl, refl, refl, refl)

-- spacing 0 to 2; raw 0 or 1; delimiter kind 0 to 3; both spans of a subtree
small_fields : (fields (punct (span_of 0 0 0) 43 2) ≡ true) × (fields (punct (span_of 0 0 0) 43 3) ≡ false)
    × (fields (ident (span_of 0 0 0) 0 1) ≡ true) × (fields (ident (span_of 0 0 0) 0 2) ≡ false)
    × (fields (subtree (span_of 0 0 0) (span_of 0 0 0) 0 3) ≡ true) × (fields (subtree (span_of 0 0 0) (span_of 0 0 0) 0 4) ≡ false)
    × (fields (subtree (span_of 0 4294967295 1) (span_of 0 0 0) 0 0) ≡ false) × (fields (subtree (span_of 0 0 0) (span_of 0 4294967295 1) 0 0) ≡ false)
    × (fields (punct (span_of 0 0 0) 0xD800 0) ≡ false)
small_fields = (refl, refl, refl, refl, refl, refl, refl, refl, refl)

-- literal kinds 0 to 10; the raw count is zero except for kinds 5, 7, 9; it and the suffix length are at most 255
literal_fields : (fields (literal (span_of 0 0 0) 0 10 0 255) ≡ true) × (fields (literal (span_of 0 0 0) 0 11 0 0) ≡ false) × (fields (literal (span_of 0 0 0) 0 10 0 256) ≡ false)
    × (fields (literal (span_of 0 0 0) 0 5 255 0) ≡ true) × (fields (literal (span_of 0 0 0) 0 7 255 0) ≡ true) × (fields (literal (span_of 0 0 0) 0 9 255 0) ≡ true)
    × (fields (literal (span_of 0 0 0) 0 5 256 0) ≡ false) × (fields (literal (span_of 0 0 0) 0 4 1 0) ≡ false) × (fields (literal (span_of 0 0 0) 0 6 1 0) ≡ false)
    × (fields (literal (span_of 0 0 0) 0 8 1 0) ≡ false) × (fields (literal (span_of 0 0 0) 0 10 1 0) ≡ false)
literal_fields = (refl, refl, refl, refl, refl, refl, refl, refl, refl, refl, refl)

-- "Span parts: 2 to 2,097,152. Symbols: 0 to 1,048,576." "Trees: 1 to 1,048,576."
sizes : (tables_sized 2 0 ≡ true) × (tables_sized 1 0 ≡ false) × (tables_sized 2097152 1048576 ≡ true) × (tables_sized 2097153 0 ≡ false) × (tables_sized 2 1048577 ≡ false)
    × ((raw_reader [] 1 (count_rules 2 0)).sized ≡ true) × ((raw_reader [] 0 (count_rules 2 0)).sized ≡ false)
    × ((raw_reader [] 1048576 (count_rules 2 0)).sized ≡ true) × ((raw_reader [] 1048577 (count_rules 2 0)).sized ≡ false)
sizes = (refl, refl, refl, refl, refl, refl, refl, refl, refl)

-- row 8, "part 5 of 3": of three parts a descendant uses part 0 alone, the root parts 1 and 2
indices : (row_eight (own_limits 3 0) 1 (punct (span_of 5 0 0) 43 0) ≡ 8) × (row_eight (own_limits 3 0) 1 (punct (span_of 0 0 0) 43 0) ≡ 0) × (row_eight (own_limits 3 0) 1 (punct (span_of 1 0 0) 43 0) ≡ 8) × (row_eight (own_limits 3 0) 1 (punct (span_of 2 0 0) 43 0) ≡ 8)
    × (row_eight (own_limits 3 1) 1 (ident (span_of 0 0 0) 0 0) ≡ 0) × (row_eight (own_limits 3 1) 1 (ident (span_of 0 0 0) 1 0) ≡ 8) × (row_eight (own_limits 3 1) 1 (literal (span_of 0 0 0) 1 0 0 0) ≡ 8)
    × (row_eight (own_limits 3 0) 1 (subtree (span_of 0 0 0) (span_of 0 0 0) 0 0) ≡ 0) × (row_eight (own_limits 3 0) 1 (subtree (span_of 0 0 0) (span_of 1 0 0) 0 0) ≡ 8)
    × (row_eight (own_limits 3 0) 0 (subtree (span_of 1 0 0) (span_of 2 0 0) 0 0) ≡ 0) × (row_eight (own_limits 3 0) 0 (subtree (span_of 2 0 0) (span_of 1 0 0) 0 0) ≡ 8) × (row_eight (own_limits 3 0) 0 (subtree (span_of 0 0 0) (span_of 0 0 0) 0 0) ≡ 8)
indices = (refl, refl, refl, refl, refl, refl, refl, refl, refl, refl, refl, refl)

-- 000: "count and children bytes up to 255, both lengths 1, distance up to 2047"; close 2052 fits, 2053 does not; "51 five-byte puncts (255 bytes) still fit 000; 52 do not"
form_000 : (fits000 (span_of 0 5 1) (span_of 0 2052 1) 0 0 ≡ true) × (fits000 (span_of 0 5 1) (span_of 0 2053 1) 0 0 ≡ false)
    × (fits000 (span_of 0 5 1) (span_of 0 8 1) 51 255 ≡ true) × (fits000 (span_of 0 5 1) (span_of 0 8 1) 52 260 ≡ false)
    × (fits000 (span_of 0 5 1) (span_of 0 8 1) 255 0 ≡ true) × (fits000 (span_of 0 5 1) (span_of 0 8 1) 256 0 ≡ false)
    × (fits000 (span_of 0 5 1) (span_of 1 8 1) 0 0 ≡ false) × (fits000 (span_of 0 5 2) (span_of 0 8 2) 0 0 ≡ false)
    × (fits000 (span_of 0 8 1) (span_of 0 5 1) 0 0 ≡ false)
form_000 = (refl, refl, refl, refl, refl, refl, refl, refl, refl)

-- 001: "equal lengths, distance up to 7"
form_001 : (fits001 (span_of 0 5 2) (span_of 0 12 2) 255 255 ≡ true) × (fits001 (span_of 0 5 2) (span_of 0 13 2) 0 0 ≡ false) × (fits001 (span_of 0 5 2) (span_of 0 8 3) 0 0 ≡ false)
    × (fits001 (span_of 0 5 2) (span_of 0 8 2) 0 256 ≡ false) × (fits001 (span_of 0 5 2) (span_of 1 8 2) 0 0 ≡ false) × (fits001 (span_of 0 8 2) (span_of 0 5 2) 0 0 ≡ false)
form_001 = (refl, refl, refl, refl, refl, refl)

-- 010: "count up to 255, bytes up to 4095, equal lengths, distance up to 255, close index up to 127"
form_010 : (fits010 (span_of 0 5 2) (span_of 127 260 2) 255 4095 ≡ true) × (fits010 (span_of 0 5 2) (span_of 128 8 2) 0 0 ≡ false) × (fits010 (span_of 0 5 2) (span_of 127 261 2) 0 0 ≡ false)
    × (fits010 (span_of 0 5 2) (span_of 0 8 2) 256 0 ≡ false) × (fits010 (span_of 0 5 2) (span_of 0 8 2) 0 4096 ≡ false) × (fits010 (span_of 0 5 2) (span_of 0 8 3) 0 0 ≡ false)
    × (fits010 (span_of 0 8 2) (span_of 0 5 2) 0 0 ≡ false)
form_010 = (refl, refl, refl, refl, refl, refl, refl)
