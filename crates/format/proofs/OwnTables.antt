-- The writer's rows over a list's own tables: row 5 never refuses, and rows 1 to 4 are those of the list alone.
-- All that the tables' theorems take from the rules of a list over given tables stands here.
use Prim.Native.Nat.{ℕ, zero, suc, ◌+◌, ◌-◌, ◌%◌, ◌≤◌, ◌<◌}
use mathlib.Core.Path.{◌≡◌, refl, sym, ap, ◌∙◌, subst}
use mathlib.Core.Bool.{Bool, true, false, ◌&&◌, ◌||◌}
use mathlib.Core.List.{List}
use native.Mathlib.Omega.{arith}
use borrow.Author.Tests.{le-leb, eq-eqb, lt-ltb, leb-true, eqb-true, eqb-false}
use lib.Dec.{leb, eqb}
use lib.ListN.{length, get_or}
use Rattle.std.specs.Prelude.{if◌then◌else◌}
use Rattle.format.specs.Verdict.{Verdict, passed, refused, ◌and_then◌, rule, each}
use Rattle.format.specs.Nest.{nest}
use Rattle.format.specs.Fields.{fields}
use Rattle.format.specs.Tables.{Mode, limits, indexed_below, own_mode, own_tables}
use Rattle.format.specs.Buffer.{word_shape}
use Rattle.format.specs.WordList.{word_of, raw_from, no_close, word_fields, list_count, given, list_sized, row_two, list_rules, list_rows, open_part, close_part}
use Rattle.format.specs.Writer.{find, is_part, part_index, symbol_index, present, row_five, list_verdict}
use Rattle.format.specs.MakeTables.{part_table, symbol_table, part_total}
use Rattle.format.specs.Width.{part_size, open_at, close_at, tree_size}
use Rattle.format.specs.Part.{Part, part_from, part_at}
use Rattle.format.proofs.Each.{and_left, and_right, true_false, both, rule_passed, each_all, all_each}
use Rattle.format.proofs.TableLaw.{parts_least, parts_bounded, part_words_lem, symbols_most, root_open, root_close, open_place, close_place, symbol_place}
use Rattle.format.proofs.PartLaw.{part_same, part_drop}

-- the first that passes a test is at most any that does
find_most : (t : ℕ → Bool) (j i m : ℕ) → i ≤ m → m < i + j → t m ≡ true → find t j i ≤ m
unfolding find
find_most t zero i m h g e = absurd (omega arith)
find_most t (suc j) i m h g e = go (t i) refl (find_most t j (i + 1) m)
  where
    go : (b : Bool) → t i ≡ b → (i + 1 ≤ m → m < i + 1 + j → t m ≡ true → find t j (i + 1) ≤ m) → (if b then i else find t j (i + 1)) ≤ m
    go true q rest = h
    go false q rest =
        let d : i ≡ m → ⊥ = λ z. true_false (t i) (ap t z ∙ e) q in
        rest (omega arith) (omega arith) e

module _ (l : List ℕ) where
  abbrev P : List ℕ
  P = part_table l

  abbrev Y : List ℕ
  Y = symbol_table l

  abbrev T : Mode
  T = own_mode P Y

  -- ---- the tables' entries, as the rules test them

  part_index_lem : (p : Part) → (i : ℕ) × (i + 2 < part_total l) × (part_at P i ≡ p) → part_index T p < T.limit
  part_index_lem p (i, h, e) =
      let m : part_index T p ≤ i = find_most (is_part T p) (part_total l - 2) 0 i (omega arith) (omega arith) (part_same (part_at P i) p e) in
      omega arith

  symbol_index_lem : (y : ℕ) → (i : ℕ) × (i < length Y) × (get_or Y i 0 ≡ y) → symbol_index T y < length Y
  symbol_index_lem y (i, h, e) =
      let m : symbol_index T y ≤ i = find_most (λ j. eqb (get_or Y j 0) y) (length Y) 0 i (omega arith) (omega arith) (eq-eqb _ _ e) in
      omega arith

  -- ---- row 1 of the tables

  tables_sized_lem : list_count l ≤ 1048576 → (own_tables P Y).sized ≡ true
  tables_sized_lem h =
      let w = part_words_lem l in
      let a : length P % part_size ≡ 0 = omega arith in
      let b = parts_least l in
      let c = parts_bounded l h in
      let s = symbols_most l in
      let d : length Y ≤ 1048576 = omega arith in
      simp (eq-eqb _ _ a, le-leb _ _ b, le-leb _ _ c, le-leb _ _ d)

  -- ---- row 5 of one tree

  root_present : present T l 0 ≡ true
  root_present =
      let h = parts_least l in
      let x : part_total l - 2 + 0 ≡ part_total l - 2 = omega arith in
      let y : part_total l - 2 + 1 ≡ part_total l - 1 = omega arith in
      let a = part_same (part_at T.pair 0) (open_part l 0) (part_drop P (part_total l - 2) 0 ∙ ap (part_at P) x ∙ root_open l) in
      let b = part_same (part_at T.pair 1) (close_part l 0) (part_drop P (part_total l - 2) 1 ∙ ap (part_at P) y ∙ root_close l) in
      simp (a, b)

  -- indices in range of a tree by its words
  indexed_from : (o c y : ℕ) (w : ℕ → ℕ) → w 0 ≤ 3 → o < T.limit
      → (eqb (w 0) 3 ≡ true → c < T.limit) → ((eqb (w 0) 1 || eqb (w 0) 2) ≡ true → y < length Y)
      → indexed_below (limits T) (raw_from o c y w) ≡ true
  unfolding raw_from
  indexed_from o c y w r ho hc hy = go (eqb (w 0) 0) (eqb (w 0) 1) (eqb (w 0) 2) refl refl refl
    where
      go : (x₀ x₁ x₂ : Bool) → eqb (w 0) 0 ≡ x₀ → eqb (w 0) 1 ≡ x₁ → eqb (w 0) 2 ≡ x₂ → indexed_below (limits T) (raw_from o c y w) ≡ true
      go true x₁ x₂ e₀ e₁ e₂ = simp e₀ (lt-ltb _ _ ho)
      go false true x₂ e₀ e₁ e₂ = let k = hy (simp e₁) in simp (e₀, e₁, lt-ltb _ _ ho, lt-ltb _ _ k)
      go false false true e₀ e₁ e₂ = let k = hy (simp (e₁, e₂)) in simp (e₀, e₁, e₂, lt-ltb _ _ ho, lt-ltb _ _ k)
      go false false false e₀ e₁ e₂ =
          let d₀ = eqb-false (w 0) 0 e₀ in
          let d₁ = eqb-false (w 0) 1 e₁ in
          let d₂ = eqb-false (w 0) 2 e₂ in
          let k = hc (eq-eqb (w 0) 3 (omega arith)) in
          simp (e₀, e₁, e₂, lt-ltb _ _ ho, lt-ltb _ _ k)

  below_present : (n : ℕ) → n < list_count l → word_fields (word_of l n) ≡ true → eqb n 0 ≡ false → present T l n ≡ true
  below_present n h f z =
      let d = eqb-false n 0 z in
      let g : 1 ≤ n = omega arith in
      let w : ℕ → ℕ = word_of l n in
      let r : word_of l n 0 ≤ 3 =
      leb-true (w 0) 3 (and_left (leb (w 0) 3) (fields (raw_from 0 0 0 w)) (and_left (leb (w 0) 3 && fields (raw_from 0 0 0 w)) (eqb (w 0) 3 || no_close w) f)) in
      simp z
      (indexed_from (part_index T (part_from w open_at)) (part_index T (part_from w close_at)) (symbol_index T (w 1)) w r
      (part_index_lem (part_from w open_at) (open_place l n g h))
      (λ s. part_index_lem (part_from w close_at) (close_place l n g h s))
      (λ s. symbol_index_lem (w 1) (symbol_place l n g h s)))

  tree_present : (n : ℕ) → n < list_count l → word_fields (word_of l n) ≡ true → present T l n ≡ true
  tree_present n h f = go (eqb n 0) refl
    where
      go : (b : Bool) → eqb n 0 ≡ b → present T l n ≡ true
      go true z = subst (λ (m : ℕ). present T l m ≡ true) (sym (eqb-true n 0 z)) root_present
      go false z = below_present n h f z

  -- ---- all rows

  all_present : list_rules l ≡ passed → each (row_five T l) (list_count l) ≡ passed
  unfolding list_rules
  all_present e =
      let q = (both (each (row_two l) (list_count l)) (nest word_shape (given l)) e).0 in
      all_each (row_five T l) (list_count l) 0
      (λ n a b.
      let h : n < list_count l = omega arith in
      let f = rule_passed (word_fields (word_of l n)) 2 n (each_all (row_two l) (list_count l) 0 q n a b) in
      let p = tree_present n h f in
      simp p)

  -- a further test in the first row and a further row, neither of which refuses anything
  no_more : (a d : Bool) (u w : Verdict) → (a ≡ true → d ≡ true) → (u ≡ passed → w ≡ passed) → (rule (a && d) 1 0 and_then u and_then w) ≡ (rule a 1 0 and_then u)
  no_more false d u w h g = refl
  no_more true d (refused r n) w h g = rw (h refl)
  no_more true d passed w h g = rw (h refl, g refl)

  -- a list that rows 1 to 4 pass is never refused over its own tables, and one that they refuse is refused alike
  pub own_tables_lem : list_verdict (part_table l) (symbol_table l) l ≡ list_rows l
  unfolding list_verdict
  own_tables_lem =
      no_more (list_sized l) (own_tables P Y).sized (list_rules l) (each (row_five T l) (list_count l))
      (λ e. tables_sized_lem (leb-true (list_count l) 1048576 (and_right (eqb (length l % tree_size) 0 && leb 1 (list_count l)) (leb (list_count l) 1048576) e)))
      all_present

  pub own_passes : list_rows l ≡ passed → list_verdict (part_table l) (symbol_table l) l ≡ passed
  own_passes e = own_tables_lem ∙ e
