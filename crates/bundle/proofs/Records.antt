-- Laws of a bundle's records: how far a count of them has come, and where the bytes stand.
use Prim.Native.Nat.{ℕ, zero, suc, ◌+◌, ◌-◌, ◌*◌, ◌≤◌}
use mathlib.Core.Bool.{Bool, true, false, ◌&&◌, ◌||◌}
use mathlib.Core.Path.{◌≡◌, refl, ap, ◌∙◌}
use mathlib.Core.List.{List, [], ◌++◌}
use native.Mathlib.Omega.{arith}
use borrow.Author.Tests.{eqb-true, leb-true}
use lib.Dec.{leb, eqb}
use lib.ListN.{length, drop, length-append, length-drop}
use Rattle.format.specs.Word.{byte_at}
use Rattle.format.specs.Width.{part_size}
use Rattle.format.specs.Bundle.{part_bytes, BundleRead, bundle, bad_bundle, marked, is_part_record, is_symbol_record, is_last_record, part_record, symbol_record, behind, last_record, records, bundle_at}
use Rattle.format.proofs.Each.{and_left, and_right}
use Rattle.format.proofs.BundleLaw.{records_enough}

module _ (b : List ℕ) where
  -- the second byte of a mark tells a part from a symbol
  not_both : (p : ℕ) → is_part_record b p ≡ true → is_symbol_record b p ≡ false
  not_both p e =
      let m = and_left (marked b 0x53 0x50 p) (leb (p + part_bytes) (length b)) e in
      let y = eqb-true (byte_at b (p + 1)) 0x50 (and_right (leb (p + 2) (length b) && eqb (byte_at b p) 0x53) (eqb (byte_at b (p + 1)) 0x50) m) in
      go (leb (p + 2) (length b) && eqb (byte_at b p) 0x53) _ y
    where
      go : (x : Bool) (v : ℕ) → v ≡ 0x50 → (x && eqb v 0x59 && leb (p + 6) (length b)) ≡ false
      go true v e = simp e
      go false v e = refl

  -- one record is passed
  step : (parts symbols : List ℕ) (p : ℕ) → (is_part_record b p || is_symbol_record b p) ≡ true
      → records b (length b) parts symbols p ≡ records b (length b) (parts ++ part_record b p) (symbols ++ symbol_record b p) (behind b p)
  unfolding records
  step parts symbols p e = records_enough b (length b) (suc (length b)) parts symbols p (omega arith) (omega arith) ∙ simp e

  last : (parts symbols : List ℕ) (p : ℕ) → (is_part_record b p || is_symbol_record b p) ≡ false
      → records b (length b) parts symbols p ≡ last_record b parts symbols p
  unfolding records
  last parts symbols p e = records_enough b (length b) (suc (length b)) parts symbols p (omega arith) (omega arith) ∙ simp e

  -- so many parts and symbols stand before place p, and what is read there is what is read of the bundle
  pub record Counted (parts symbols p : ℕ) : Type 0 where
    pub part_words : List ℕ
    pub symbol_words : List ℕ
    pub of_parts : length part_words ≡ part_size * parts
    pub of_symbols : length symbol_words ≡ symbols
    pub inside : p ≤ length b
    pub few_parts : parts ≤ p
    pub few_symbols : symbols ≤ p
    pub rest : bundle_at b ≡ records b (length b) part_words symbol_words p

  pub counted_none : Counted 0 0 0
  counted_none =
      record {
        part_words = [];
        symbol_words = [];
        of_parts = refl;
        of_symbols = refl;
        inside = omega arith;
        few_parts = omega arith;
        few_symbols = omega arith;
        rest = refl;
      }

  module _ (parts symbols p : ℕ) (c : Counted parts symbols p) where
    pub counted_part : is_part_record b p ≡ true → Counted (parts + 1) symbols (p + part_bytes)
    counted_part e =
        let f = not_both p e in
        let h = leb-true (p + part_bytes) (length b) (and_right (marked b 0x53 0x50 p) (leb (p + part_bytes) (length b)) e) in
        let g : (is_part_record b p || is_symbol_record b p) ≡ true = simp e in
        let s = step c.part_words c.symbol_words p g in
        let n : length (part_record b p) ≡ part_size = simp e in
        let m : length (symbol_record b p) ≡ 0 = simp f in
        let k : behind b p ≡ p + part_bytes = simp e in
        let l₁ = length-append c.part_words (part_record b p) in
        let l₂ = length-append c.symbol_words (symbol_record b p) in
        let t = c.of_parts in
        let o = c.of_symbols in
        let u = c.few_parts in
        let v = c.few_symbols in
        record {
          part_words = c.part_words ++ part_record b p;
          symbol_words = c.symbol_words ++ symbol_record b p;
          of_parts = omega arith;
          of_symbols = omega arith;
          inside = h;
          few_parts = omega arith;
          few_symbols = omega arith;
          rest = c.rest ∙ s ∙ ap (records b (length b) (c.part_words ++ part_record b p) (c.symbol_words ++ symbol_record b p)) k;
        }

    pub counted_symbol : is_part_record b p ≡ false → is_symbol_record b p ≡ true → Counted parts (symbols + 1) (p + 6)
    counted_symbol e f =
        let h = leb-true (p + 6) (length b) (and_right (marked b 0x53 0x59 p) (leb (p + 6) (length b)) f) in
        let g : (is_part_record b p || is_symbol_record b p) ≡ true = simp (e, f) in
        let s = step c.part_words c.symbol_words p g in
        let n : length (part_record b p) ≡ 0 = simp e in
        let m : length (symbol_record b p) ≡ 1 = simp f in
        let k : behind b p ≡ p + 6 = simp e in
        let l₁ = length-append c.part_words (part_record b p) in
        let l₂ = length-append c.symbol_words (symbol_record b p) in
        let t = c.of_parts in
        let o = c.of_symbols in
        let u = c.few_parts in
        let v = c.few_symbols in
        record {
          part_words = c.part_words ++ part_record b p;
          symbol_words = c.symbol_words ++ symbol_record b p;
          of_parts = omega arith;
          of_symbols = omega arith;
          inside = h;
          few_parts = omega arith;
          few_symbols = omega arith;
          rest = c.rest ∙ s ∙ ap (records b (length b) (c.part_words ++ part_record b p) (c.symbol_words ++ symbol_record b p)) k;
        }

    pub counted_last : is_part_record b p ≡ false → is_symbol_record b p ≡ false → bundle_at b ≡ last_record b c.part_words c.symbol_words p
    counted_last e f =
        let g : (is_part_record b p || is_symbol_record b p) ≡ false = simp (e, f) in
        c.rest ∙ last c.part_words c.symbol_words p g

    pub counted_end : length b ≤ p → bundle_at b ≡ bad_bundle
    unfolding records
    counted_end h = c.rest ∙ records_enough b (length b) 0 c.part_words c.symbol_words p (omega arith) (omega arith)

  -- ---- the bytes are the bundle's last

  pub last_inside : (p : ℕ) → is_last_record b p ≡ true → p + 10 ≤ length b
  last_inside p e =
      leb-true (p + 10) (length b)
      (and_right (marked b 0x42 0x54 p) (leb (p + 10) (length b))
      (and_left (marked b 0x42 0x54 p && leb (p + 10) (length b)) _ e))

  pub start_of : (p : ℕ) → p ≤ length b → length b - length (drop p b) ≡ p
  start_of p h = let l = length-drop p b in omega arith

  abbrev pub Placed : BundleRead → Type 0
  Placed (bundle B) = drop (length b - length B.bytes) b ≡ B.bytes
  Placed bad_bundle = Unit {0}

  last_placed : (parts symbols : List ℕ) (p : ℕ) → Placed (last_record b parts symbols p)
  last_placed parts symbols p = go _ refl
    where
      go : (x : Bool) → is_last_record b p ≡ x → Placed (last_record b parts symbols p)
      go true e = simp e (ap (λ n. drop n b) (start_of (p + 10) (last_inside p e)))
      go false e = simp e tt

  placed : (f : ℕ) (parts symbols : List ℕ) (p : ℕ) → Placed (records b f parts symbols p)
  unfolding records
  placed zero parts symbols p = tt
  placed (suc f) parts symbols p = go _ refl (placed f (parts ++ part_record b p) (symbols ++ symbol_record b p) (behind b p))
    where
      go : (x : Bool) → (is_part_record b p || is_symbol_record b p) ≡ x → Placed (records b f (parts ++ part_record b p) (symbols ++ symbol_record b p) (behind b p))
          → Placed (records b (suc f) parts symbols p)
      go true e w = simp e w
      go false e w = simp e (last_placed parts symbols p)

  pub bytes_placed : Placed (bundle_at b)
  bytes_placed = placed (length b) [] [] 0
