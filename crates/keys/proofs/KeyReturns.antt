-- Laws for the functions of keys: where keys stand, when they are alike, where they are looked for, how they are stored.
use Prim.Native.Nat.{ℕ, suc, ◌+◌, ◌-◌, ◌*◌, ◌/◌, ◌%◌, ◌<◌, ◌≤◌}
use mathlib.Core.Path.{◌≡◌, refl, ap, sym, ◌∙◌}
use mathlib.Core.Bool.{Bool, true, false, ◌&&◌}
use mathlib.Core.List.{List}
use native.Mathlib.Omega.{arith}
use lib.ListN.{length, get_or, set}
use lib.Seq.{sets}
use lib.Dec.{leb, eqb}
use mathlib.Core.Logic.{⊎_elim}
use Rattle.format.proofs.Tally.{lt_or_le}
use borrow.Author.Tests.{eq-eqb, ne_eqb, le-leb, lt-leb}
use Rattle.format.specs.Width.{part_size, span_size, open_at, tree_size}
use Rattle.format.specs.Part.{part_words, part_from, same_part}
use Rattle.format.specs.MakeTables.{key_count, live_at, key_place, key_word, key_part, key_words, alike_at, limit_of}
use Rattle.format.proofs.PartLaw.{part_from_lem}
use Rattle.format.proofs.KeyLaw.{alike_words, alike_part}
use Rattle.slots.specs.Hash.{mix_of}
use Rattle.keys.specs.Keys.{part_in, slot_of, class_of, live_in, place_in}
use Rattle.keys.proofs.Lists.{differ, store_out, none_at}

pub count_none : (l : List ℕ) (s : Bool) → length l / tree_size ≡ 0 → 0 ≡ key_count l s
unfolding key_count
count_none l true e = omega arith
count_none l false e = omega arith

pub count_symbols : (l : List ℕ) (s : Bool) → s ≡ true → length l / tree_size - 1 ≡ key_count l s
unfolding key_count
count_symbols l s e = rw e

pub count_parts : (l : List ℕ) (s : Bool) → s ≡ false → 2 * (length l / tree_size - 1) ≡ key_count l s
unfolding key_count
count_parts l s e = rw e

pub room_symbols : (l : List ℕ) (s : Bool) (v : ℕ) → s ≡ true → v < key_count l s → tree_size * (v + 1) + tree_size ≤ length l
unfolding key_count
room_symbols l true v e h = omega arith
room_symbols l false v e h = differ (sym e)

pub room_parts : (l : List ℕ) (s : Bool) (v : ℕ) → s ≡ false → v < key_count l s → tree_size * (v / 2 + 1) + tree_size ≤ length l
unfolding key_count
room_parts l true v e h = differ e
room_parts l false v e h = omega arith

pub place_symbols : (s : Bool) (v : ℕ) → s ≡ true → tree_size * (v + 1) + 1 ≡ key_place s v
unfolding key_place
place_symbols s v e = rw e

pub place_parts : (s : Bool) (v : ℕ) → s ≡ false → tree_size * (v / 2 + 1) + (open_at + span_size * (v % 2)) ≡ key_place s v
unfolding key_place
place_parts s v e = rw e

pub within_symbols : (l : List ℕ) (s : Bool) (v : ℕ) → s ≡ true → v < key_count l s → tree_size * (v + 1) + 1 + part_size ≤ length l
within_symbols l s v e h = let k : tree_size * (v + 1) + tree_size ≤ length l = room_symbols l s v e h in omega arith

pub within_parts : (l : List ℕ) (s : Bool) (v : ℕ) → s ≡ false → v < key_count l s → tree_size * (v / 2 + 1) + (open_at + span_size * (v % 2)) + part_size ≤ length l
within_parts l s v e h = let k : tree_size * (v / 2 + 1) + tree_size ≤ length l = room_parts l s v e h in omega arith

-- ---- live

module _ (l : List ℕ) (s : Bool) (v : ℕ) where
  module _ (e : s ≡ true) (kind : ℕ) (q : kind ≡ get_or l (tree_size * (v + 1)) 0) where
    pub live_ident : kind ≡ 1 → eqb kind 1 ≡ live_at l s v
    unfolding live_at
    live_ident h = rw (e, ← q) (simp (eq-eqb _ _ h))

    pub live_literal : (kind ≡ 1 → ⊥) → eqb kind 2 ≡ live_at l s v
    unfolding live_at
    live_literal h = rw (e, ← q) (simp (ne_eqb _ _ h))

  pub live_open : s ≡ false → v % 2 ≡ 0 → eqb (v % 2) 0 ≡ live_at l s v
  unfolding live_at
  live_open e h = rw e (simp (eq-eqb _ _ h))

  pub live_close : s ≡ false → (v % 2 ≡ 0 → ⊥) → (kind : ℕ) → kind ≡ get_or l (tree_size * (v / 2 + 1)) 0 → eqb kind 3 ≡ live_at l s v
  unfolding live_at
  live_close e h kind q = rw (e, ← q) (simp (ne_eqb _ _ h))

-- ---- a key that is a part, read at its place

part_at : (l : List ℕ) (s : Bool) (v a : ℕ) → s ≡ false → a ≡ key_place s v → key_part l v ≡ part_in l a
unfolding part_in
part_at l true v a e q = differ e
part_at l false v a e q = part_from_lem (key_word l false v) (λ j. get_or l j 0) (key_place false v) (λ j. refl) ∙ ap (part_in l) (sym q)

-- ---- alike, over the places a and b

module _ (l : List ℕ) (s : Bool) (u v a b : ℕ) (ea : a ≡ key_place s u) (eb : b ≡ key_place s v) where
  alike_word : s ≡ true → alike_at l s u v ≡ eqb (get_or l a 0) (get_or l b 0)
  unfolding alike_at
  alike_word e = go s e ea eb
    where
      zero_on : (x : ℕ) → x + 0 ≡ x
      zero_on x = omega arith

      go : (s : Bool) → s ≡ true → a ≡ key_place s u → b ≡ key_place s v → alike_at l s u v ≡ eqb (get_or l a 0) (get_or l b 0)
      go true e p q = simp (← p, ← q, zero_on a, zero_on b)
      go false e p q = differ (sym e)

  alike_parts : s ≡ false → alike_at l s u v ≡ same_part (part_in l a) (part_in l b)
  unfolding alike_at
  alike_parts e = rw e (λ i. same_part (part_at l s u a e ea i) (part_at l s v b e eb i))

  pub alike_first : (get_or l a 0 ≡ get_or l b 0 → ⊥) → eqb (get_or l a 0) (get_or l b 0) ≡ alike_at l s u v
  unfolding part_in
  alike_first h = ne_eqb _ _ h ∙ go s refl
    where
      go : (x : Bool) → s ≡ x → false ≡ alike_at l s u v
      go true e = sym (alike_word e ∙ ne_eqb _ _ h)
      go false e = sym (alike_parts e ∙ simp (ne_eqb _ _ h))

  pub alike_symbols : s ≡ true → get_or l a 0 ≡ get_or l b 0 → s ≡ alike_at l s u v
  alike_symbols e h = e ∙ sym (alike_word e ∙ eq-eqb _ _ h)

  module _ (e : s ≡ false) (h : get_or l a 0 ≡ get_or l b 0) where
    pub alike_second : (get_or l (a + 1) 0 ≡ get_or l (b + 1) 0 → ⊥) → eqb (get_or l (a + 1) 0) (get_or l (b + 1) 0) ≡ alike_at l s u v
    unfolding part_in
    alike_second g = ne_eqb _ _ g ∙ sym (alike_parts e ∙ simp (eq-eqb _ _ h, ne_eqb _ _ g))

    pub alike_third : get_or l (a + 1) 0 ≡ get_or l (b + 1) 0 → eqb (get_or l (a + 2) 0) (get_or l (b + 2) 0) ≡ alike_at l s u v
    unfolding part_in
    alike_third g = sym (alike_parts e ∙ simp (eq-eqb _ _ h, eq-eqb _ _ g))

-- ---- the hash

module _ (l : List ℕ) (s : Bool) (size v a r : ℕ) (q : a ≡ key_place s v) where
  pub slot_symbols : s ≡ true → r ≡ mix_of (get_or l a 0) 0 0 size → r ≡ slot_of l s size v
  unfolding slot_of
  slot_symbols e h = go s e (q)
    where
      go : (s : Bool) → s ≡ true → a ≡ key_place s v → r ≡ slot_of l s size v
      go true e q = let z : a + 0 ≡ a = omega arith in rw (← q, z) h
      go false e q = differ (sym e)

  pub slot_parts : s ≡ false → r ≡ mix_of (get_or l a 0) (get_or l (a + 1) 0) (get_or l (a + 2) 0) size → r ≡ slot_of l s size v
  unfolding slot_of part_in
  slot_parts e h = rw e (h ∙ ap (λ p. mix_of p.file p.ast p.context size) (sym (part_at l s v a e q)))

  pub class_symbols : s ≡ true → r ≡ mix_of 0 (get_or l a 0) 0 size → r ≡ class_of l s size v
  unfolding class_of
  class_symbols e h = go s e q
    where
      go : (s : Bool) → s ≡ true → a ≡ key_place s v → r ≡ class_of l s size v
      go true e q = let z : a + 0 ≡ a = omega arith in rw (← q, z) h
      go false e q = differ (sym e)

  pub class_parts : s ≡ false → r ≡ mix_of (get_or l (a + 2) 0) (get_or l a 0) (get_or l (a + 1) 0) size → r ≡ class_of l s size v
  unfolding class_of part_in
  class_parts e h = rw e (h ∙ ap (λ p. mix_of p.context p.file p.ast size) (sym (part_at l s v a e q)))

-- keys that are alike are looked for from one slot on, and are of one class
module _ (l : List ℕ) (size u v : ℕ) where
  same_word : alike_at l true u v ≡ true → key_word l true u 0 ≡ key_word l true v 0
  same_word h = let e = alike_words l true u v h in let a : key_word l true u 0 ≡ key_word l true v 0 = cc in a

  pub slot_same : (s : Bool) → alike_at l s u v ≡ true → slot_of l s size u ≡ slot_of l s size v
  unfolding slot_of
  slot_same true h = rw (same_word h)
  slot_same false h = ap (λ p. mix_of p.file p.ast p.context size) (alike_part l u v h)

  pub class_same : (s : Bool) → alike_at l s u v ≡ true → class_of l s size u ≡ class_of l s size v
  unfolding class_of
  class_same true h = rw (same_word h)
  class_same false h = ap (λ p. mix_of p.context p.file p.ast size) (alike_part l u v h)

-- ---- of the class

module _ (l : List ℕ) (s : Bool) (classes class v : ℕ) (b : Bool) (e : b ≡ live_at l s v) where
  one_class : classes ≤ 1 → live_at l s v ≡ live_in l s classes class v
  unfolding live_in
  one_class h = ap (λ (f : ℕ → Bool). f v) (sym all)
    where
      all : live_in l s classes class ≡ live_at l s
      all = simp (le-leb _ _ h)

  others : 1 < classes → live_in l s classes class v ≡ (live_at l s v && eqb (class_of l s classes v) class)
  unfolding live_in
  others h = simp (lt-leb _ _ h)

  pub in_all : b ≡ true → classes ≤ 1 → leb classes 1 ≡ live_in l s classes class v
  in_all z h = le-leb _ _ h ∙ sym z ∙ e ∙ one_class h

  pub in_none : b ≡ false → b ≡ live_in l s classes class v
  in_none z =
      ⊎_elim
      (λ h. let y : live_at l s v ≡ false = sym e ∙ z in z ∙ sym (others h ∙ simp y))
      (λ h. e ∙ one_class h)
      (lt_or_le 1 classes)

  pub in_class : b ≡ true → 1 < classes → (r : ℕ) → r ≡ class_of l s classes v → eqb r class ≡ live_in l s classes class v
  in_class z h r q = let w : live_at l s v ≡ true = sym e ∙ z in ap (λ (x : ℕ). eqb x class) q ∙ sym (others h ∙ simp w)

-- ---- a key in a run

pub limit_symbols : (s : Bool) → s ≡ true → 63 ≡ limit_of s
unfolding limit_of
limit_symbols s e = rw e

pub limit_parts : (s : Bool) → s ≡ false → 15 ≡ limit_of s
unfolding limit_of
limit_parts s e = rw e

pub in_symbols : (s : Bool) (k : ℕ) → s ≡ true → k ≡ place_in s k
unfolding place_in
in_symbols s k e = rw e

pub in_parts : (s : Bool) (k : ℕ) → s ≡ false → part_size * k ≡ place_in s k
unfolding place_in
in_parts s k e = rw e

pub put_symbols : (l : List ℕ) (s : Bool) (v a k : ℕ) (o o₁ : List ℕ) → s ≡ true → a ≡ key_place s v → o₁ ≡ set o k (get_or l a 0) → o₁ ≡ sets o (place_in s k) (key_words l s v)
unfolding place_in
put_symbols l true v a k o o₁ e q h = let z : a + 0 ≡ a = omega arith in rw (← q, z) h
put_symbols l false v a k o o₁ e q h = differ (sym e)

pub put_parts : (l : List ℕ) (s : Bool) (v a k : ℕ) (o o₁ : List ℕ) → s ≡ false → a ≡ key_place s v
    → o₁ ≡ sets o (part_size * k) (part_words (part_in l a)) → o₁ ≡ sets o (place_in s k) (key_words l s v)
unfolding place_in
put_parts l s v a k o o₁ e q h = rw e (h ∙ ap (λ p. sets o (part_size * k) (part_words p)) (sym (part_at l s v a e q)))

-- word after word
pub words_stored : (o o₁ o₂ o₃ : List ℕ) (at a b c : ℕ) → o₁ ≡ set o at a → o₂ ≡ set o₁ (at + 1) b → o₃ ≡ set o₂ (at + 2) c
    → o₃ ≡ sets o at (part_words (record { file = a; ast = b; context = c }))
words_stored o o₁ o₂ o₃ at a b c h g f =
    let i : at + 1 ≡ suc at = omega arith in
    let j : at + 2 ≡ suc (at + 1) = omega arith in
    rw (← i, ← j, ← h, ← g) f

pub part_stored : (l o o₁ : List ℕ) (from at : ℕ) → o₁ ≡ sets o at (part_words (part_from (λ j. get_or l j 0) from)) → o₁ ≡ sets o at (part_words (part_in l from))
unfolding part_in
part_stored l o o₁ from at h = h

pub ruleset key_cases = (store_out, none_at, count_none, count_symbols, count_parts, room_symbols, room_parts, place_symbols, place_parts, within_symbols, within_parts, live_ident, live_literal, live_open, live_close, alike_first, alike_symbols, alike_second, alike_third, slot_symbols, slot_parts, class_symbols, class_parts, in_all, in_none, in_class, limit_symbols, limit_parts, in_symbols, in_parts, put_symbols, put_parts, words_stored, part_stored)
