-- One law for each return, call and turn of the loop of the reading of a bundle.
use Prim.Native.Nat.{ℕ, ◌+◌, ◌*◌, ◌≤◌}
use mathlib.Core.Bool.{Bool, true, false}
use mathlib.Core.Path.{◌≡◌, refl, sym, ap, ◌∙◌}
use mathlib.Core.List.{List}
use native.Mathlib.Omega.{arith}
use lib.ListN.{length}
use Rattle.std.specs.Prelude.{Option, Some, None}
use Rattle.format.specs.Width.{part_size}
use Rattle.format.specs.Bundle.{part_bytes, is_last_record, last_record, bundle_at}
use Rattle.bundle.specs.Answer.{is_entry, read_answer, last_answer}
use Rattle.bundle.specs.declared.read.Contents.{Contents}
use Rattle.bundle.proofs.Records.{Counted, counted_none, counted_part, counted_symbol, counted_last, counted_end, last_inside, start_of}

same_contents : (t x x' y y' s s' : ℕ) → x ≡ x' → y ≡ y' → s ≡ s'
    → ◌≡◌ {A = Option Contents} (Some (record { trees = t; parts = x; symbols = y; start = s })) (Some (record { trees = t; parts = x'; symbols = y'; start = s' }))
same_contents t x x' y y' s s' e f g = rw (e, f, g)

last_alike : (b : List ℕ) (parts symbols p : ℕ) (part_words symbol_words : List ℕ) → length part_words ≡ part_size * parts → length symbol_words ≡ symbols
    → read_answer b (last_record b part_words symbol_words p) ≡ last_answer b parts symbols p
unfolding read_answer last_answer
last_alike b parts symbols p part_words symbol_words x y = go _ refl
  where
    go : (z : Bool) → is_last_record b p ≡ z → read_answer b (last_record b part_words symbol_words p) ≡ last_answer b parts symbols p
    go true d = simp d (same_contents _ _ _ _ _ _ _ (omega arith) y (start_of b (p + 10) (last_inside b p d)))
    go false d = simp d

module _ (b : List ℕ) (parts symbols p : ℕ) (c : Counted b parts symbols p) where
  pub read_end : length b ≤ p → None ≡ read_answer b (bundle_at b)
  unfolding read_answer
  read_end h = sym (ap (read_answer b) (counted_end b parts symbols p c h))

  module _ (x : Bool) (e : x ≡ is_entry b 0x50 part_bytes p) where
    pub read_part : x ≡ true → Counted b (parts + 1) symbols (p + part_bytes)
    unfolding is_entry
    read_part h = counted_part b parts symbols p c (sym e ∙ h)

    module _ (h : x ≡ false) (y : Bool) (f : y ≡ is_entry b 0x59 6 p) where
      pub read_symbol : y ≡ true → Counted b parts (symbols + 1) (p + 6)
      unfolding is_entry
      read_symbol k = counted_symbol b parts symbols p c (sym e ∙ h) (sym f ∙ k)

      pub read_last : (r : Option Contents) → y ≡ false → r ≡ last_answer b parts symbols p → r ≡ read_answer b (bundle_at b)
      unfolding is_entry
      read_last r k q =
          let d = counted_last b parts symbols p c (sym e ∙ h) (sym f ∙ k) in
          q ∙ sym (ap (read_answer b) d ∙ last_alike b parts symbols p c.part_words c.symbol_words c.of_parts c.of_symbols)

pub ruleset read_cases = (counted_none, read_end, read_part, read_symbol, read_last)
