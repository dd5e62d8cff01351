-- The check of a bundle needs the number of its parts and symbols, and no entry.
use Prim.Native.Nat.{ℕ, zero, suc, ◌+◌, ◌/◌, ◌%◌, ◌≤◌, ◌<◌}
use mathlib.Core.Bool.{Bool, true, false, ◌||◌}
use mathlib.Core.Path.{◌≡◌, refl, sym}
use mathlib.Core.List.{List, [], ◌++◌}
use native.Mathlib.Omega.{arith}
use borrow.Author.Tests.{leb-true, lt-leb}
use lib.Dec.{leb}
use lib.ListN.{length, length-append}
use Rattle.format.specs.Verdict.{Verdict, refused}
use Rattle.format.specs.Check.{check}
use Rattle.format.specs.Buffer.{raw_shape, size_reader}
use Rattle.format.specs.Bundle.{part_bytes, BundleRead, bundle, bad_bundle, marked, is_part_record, is_symbol_record, is_last_record, part_record, symbol_record, behind, last_record, records, bundle_at, check_of, bundle_check}
use Rattle.format.specs.Width.{part_size}
use Rattle.format.proofs.Each.{and_right}
use Rattle.format.proofs.RawReader.{own_check}

abbrev Whole : BundleRead → Type 0
Whole (bundle B) = length B.parts % part_size ≡ 0
Whole bad_bundle = Unit {0}

module _ (b : List ℕ) where
  last_whole : (parts symbols : List ℕ) (p : ℕ) → length parts % part_size ≡ 0 → Whole (last_record b parts symbols p)
  last_whole parts symbols p h = go _ refl
    where
      go : (x : Bool) → is_last_record b p ≡ x → Whole (last_record b parts symbols p)
      go true e = simp e h
      go false e = simp e tt

  whole_record : (p : ℕ) → length (part_record b p) % part_size ≡ 0
  whole_record p = go _ refl
    where
      go : (x : Bool) → is_part_record b p ≡ x → length (part_record b p) % part_size ≡ 0
      go true e = simp e
      go false e = simp e

  whole : (f : ℕ) (parts symbols : List ℕ) (p : ℕ) → length parts % part_size ≡ 0 → Whole (records b f parts symbols p)
  unfolding records
  whole zero parts symbols p h = tt
  whole (suc f) parts symbols p h =
      go _ refl (whole f (parts ++ part_record b p) (symbols ++ symbol_record b p) (behind b p) (let t = whole_record p in let l = length-append parts (part_record b p) in omega arith))
    where
      go : (x : Bool) → (is_part_record b p || is_symbol_record b p) ≡ x → Whole (records b f (parts ++ part_record b p) (symbols ++ symbol_record b p) (behind b p))
          → Whole (records b (suc f) parts symbols p)
      go true e w = simp e w
      go false e w = simp e (last_whole parts symbols p h)

  -- ---- more steps than bytes left change nothing: the rule by which a loop goes on

  ahead : (p : ℕ) → (is_part_record b p || is_symbol_record b p) ≡ true → (p < length b) × (p < behind b p)
  ahead p e = go _ refl
    where
      go : (x : Bool) → is_part_record b p ≡ x → (p < length b) × (p < behind b p)
      go true f =
          let l = leb-true (p + part_bytes) (length b) (and_right (marked b 0x53 0x50 p) (leb (p + part_bytes) (length b)) f) in
          (omega arith, simp f (omega arith))
      go false f =
          let g : is_symbol_record b p ≡ true = simp f at e in
          let l = leb-true (p + 6) (length b) (and_right (marked b 0x53 0x59 p) (leb (p + 6) (length b)) g) in
          (omega arith, simp f (omega arith))

  unmarked : (x y p : ℕ) → length b ≤ p → marked b x y p ≡ false
  unmarked x y p h = let e = lt-leb (p + 2) (length b) (omega arith) in simp e

  none_left : (f : ℕ) (parts symbols : List ℕ) (p : ℕ) → length b ≤ p → records b f parts symbols p ≡ bad_bundle
  unfolding records
  none_left zero parts symbols p h = refl
  none_left (suc f) parts symbols p h = simp (unmarked 0x53 0x50 p h, unmarked 0x53 0x59 p h, unmarked 0x42 0x54 p h)

  pub records_enough : (f g : ℕ) (parts symbols : List ℕ) (p : ℕ) → length b ≤ p + f → length b ≤ p + g → records b f parts symbols p ≡ records b g parts symbols p
  unfolding records
  records_enough zero zero parts symbols p h k = refl
  records_enough zero (suc g) parts symbols p h k = sym (none_left (suc g) parts symbols p (omega arith))
  records_enough (suc f) zero parts symbols p h k = none_left (suc f) parts symbols p (omega arith)
  records_enough (suc f) (suc g) parts symbols p h k = go _ refl (records_enough f g (parts ++ part_record b p) (symbols ++ symbol_record b p) (behind b p))
    where
      go : (x : Bool) → (is_part_record b p || is_symbol_record b p) ≡ x
          → (length b ≤ behind b p + f → length b ≤ behind b p + g → records b f (parts ++ part_record b p) (symbols ++ symbol_record b p) (behind b p) ≡ records b g (parts ++ part_record b p) (symbols ++ symbol_record b p) (behind b p))
          → records b (suc f) parts symbols p ≡ records b (suc g) parts symbols p
      go true e rec = let a = (ahead p e).1 in simp e (rec (omega arith) (omega arith))
      go false e rec = simp e

-- by sizes alone
abbrev pub sizes_of : BundleRead → Verdict
sizes_of (bundle B) = check raw_shape (size_reader B.bytes B.trees (length B.parts / part_size) (length B.symbols))
sizes_of bad_bundle = refused 1 0

by_sizes : (r : BundleRead) → Whole r → check_of r ≡ sizes_of r
by_sizes (bundle B) h = own_check B.bytes B.trees B.parts B.symbols h
by_sizes bad_bundle h = refl

pub bundle_by_sizes : (b : List ℕ) → bundle_check b ≡ sizes_of (bundle_at b)
bundle_by_sizes b = by_sizes (bundle_at b) (whole b (length b) [] [] 0 refl)
