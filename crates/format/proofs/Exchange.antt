-- One leaf exchanged: the new list passes rows 1 to 4, its buffer over fresh tables reads as that list, and each refusal is given exactly where its row holds.
use Prim.Native.Nat.{ℕ, ◌+◌, ◌*◌, ◌-◌, ◌/◌, ◌%◌, ◌≤◌, ◌<◌}
use mathlib.Core.Bool.{Bool, true, false, not, ◌&&◌}
use mathlib.Core.Path.{◌≡◌, refl, sym, ap, ◌∙◌, subst}
use mathlib.Core.List.{List}
use mathlib.Core.Logic.{◌⊎◌, inl, inr, ◌↔◌}
use native.Mathlib.Omega.{arith}
use borrow.Author.Tests.{le-ltb, ltb-true, ltb-false, leb-true, eqb-true, eqb-false, not-true, not-false}
use lib.Dec.{leb, eqb, ltb}
use lib.ListN.{length}
use Rattle.std.specs.Prelude.{if◌then◌else◌}
use Rattle.format.specs.Verdict.{passed, refused, ◌and_then◌, rule, each}
use Rattle.format.specs.Word.{put}
use Rattle.format.specs.Width.{tree_size}
use Rattle.format.specs.Plain.{Listing, end_of, sub}
use Rattle.format.specs.Nest.{nest}
use Rattle.format.specs.Check.{listing}
use Rattle.format.specs.Tables.{own_tables}
use Rattle.format.specs.Buffer.{word_shape, own_reader, buffer_check}
use Rattle.format.specs.WordList.{word_of, tree_list, raw_from, word_fields, list_count, given, list_sized, row_two, list_rules, list_rows}
use Rattle.format.specs.Writer.{list_verdict}
use Rattle.format.specs.MakeTables.{part_table, symbol_table, part_total}
use Rattle.format.specs.Builder.{word_in, leaf_words, leaf_fits}
use Rattle.format.specs.Replace.{fresh_bytes, is_leaf, exchanged, replace_verdict, replace_work, out_fits, replace_out, LeafOnly}
use Rattle.format.specs.Unpack.{list_work, table_work, count_work, work_fits, list_of}
use Rattle.format.proofs.Each.{and_left, and_right, and₃, true_false, both, rule_passed, then_refused, rule_refused, renumber, each_all, all_each}
use Rattle.format.proofs.Put.{put_length, put_before, put_at, put_after}
use Rattle.format.proofs.TableLaw.{parts_most, symbols_most}
use Rattle.format.proofs.OwnTables.{own_passes}
use Rattle.format.proofs.Own.{own_sound}
use Rattle.format.proofs.WriterLaw.{packed_passes, packed_reads, packed_is}
use Rattle.format.proofs.WriterRefusal.{list_sound, rules_complete}
use Rattle.format.proofs.ListOf.{nest_alike, list_fields, list_length, list_count_lem, list_tree, admitted_lawful}

-- ---- a list in which one tree is exchanged

-- a tree's words turn on no others
pub tree_same : (v w : ℕ → ℕ) → ((j : ℕ) → j < tree_size → v j ≡ w j) → tree_list v ≡ tree_list w
tree_same v w same = λ i. tree_list (λ j. below j (ltb j tree_size) refl i)
  where
    below : (j : ℕ) (b : Bool) → ltb j tree_size ≡ b → (if b then v j else 0) ≡ (if b then w j else 0)
    below j true e = same j (ltb-true j tree_size e)
    below j false e = refl

module _ (l : List ℕ) (n : ℕ) (w : List ℕ) (room : n < list_count l) where
  abbrev e : List ℕ
  e = put l (tree_size * n) (leaf_words w)

  fits : tree_size * n + length (leaf_words w) ≤ length l
  fits = omega arith

  put_size : length e ≡ length l
  put_size = put_length l (tree_size * n) (leaf_words w) fits

  put_there : tree_list (word_of e n) ≡ leaf_words w
  put_there = tree_same (word_of e n) (word_in (leaf_words w)) (λ j h. put_at l (tree_size * n) (leaf_words w) fits j h)

  put_other : (m : ℕ) → (m ≡ n → ⊥) → tree_list (word_of e m) ≡ tree_list (word_of l m)
  put_other m d = tree_same (word_of e m) (word_of l m) (λ j h. go j h (ltb m n) refl)
    where
      go : (j : ℕ) → j < tree_size → (b : Bool) → ltb m n ≡ b → word_of e m j ≡ word_of l m j
      go j h true q = let a = ltb-true m n q in put_before l (tree_size * n) (leaf_words w) fits (tree_size * m + j) (omega arith)
      go j h false q = let a = ltb-false m n q in put_after l (tree_size * n) (leaf_words w) fits (tree_size * m + j) (omega arith)

  -- a leaf for a leaf
  module _ (rows : list_rows l ≡ passed) (leaf : sub word_shape (given l) n ≡ false) (new : leaf_fits w ≡ true) where
    new_leaf : eqb (word_in w 0) 3 ≡ false
    new_leaf = not-true (eqb (word_in w 0) 3) (and_left (not (eqb (word_in w 0) 3)) (word_fields (word_in w)) new)

    put_fields : (m : ℕ) → word_fields (word_of l m) ≡ true → word_fields (word_of e m) ≡ true
    unfolding raw_from
    put_fields m f = go (eqb m n) refl
      where
        go : (b : Bool) → eqb m n ≡ b → word_fields (word_of e m) ≡ true
        go true q =
            let p = eqb-true m n q in
            rw p (list_fields e n (leaf_words w) put_there (and_right (not (eqb (word_in w 0) 3)) (word_fields (word_in w)) new))
        go false q = list_fields e m (tree_list (word_of l m)) (put_other m (eqb-false m n q)) f

    put_sub : (m : ℕ) → sub word_shape (given l) m ≡ sub word_shape (given e) m
    put_sub m = go (eqb m n) refl
      where
        go : (b : Bool) → eqb m n ≡ b → sub word_shape (given l) m ≡ sub word_shape (given e) m
        go true q =
            let p = eqb-true m n q in
            rw p (leaf ∙ sym (ap word_shape.is_sub put_there ∙ new_leaf))
        go false q = ap word_shape.is_sub (sym (put_other m (eqb-false m n q)))

    put_count : list_count e ≡ list_count l
    put_count = ap (λ m. m / tree_size) put_size

    -- only a subtree's second word says where it ends
    put_end : (m : ℕ) → sub word_shape (given l) m ≡ true → end_of word_shape (given l) m ≡ end_of word_shape (given e) m
    put_end m s = ap (λ t. m + 1 + word_shape.count t) (sym (put_other m (λ q. true_false (sub word_shape (given l) n) (subst (λ x. sub word_shape (given l) x ≡ true) q s) leaf)))

    put_rows : list_rows e ≡ passed
    unfolding list_rules
    put_rows =
        let a = both (rule (list_sized l) 1 0) (list_rules l) rows in
        let c = both (each (row_two l) (list_count l)) (nest word_shape (given l)) a.1 in
        let z = put_count in
        let s : list_sized e ≡ true = ap (λ m. eqb (m % tree_size) 0 && leb 1 (m / tree_size) && leb (m / tree_size) 1048576) put_size ∙ rule_passed (list_sized l) 1 0 a.0 in
        let f = all_each (row_two e) (list_count e) 0
        (λ m g h. let x = put_fields m (rule_passed (word_fields (word_of l m)) 2 m (each_all (row_two l) (list_count l) 0 c.0 m g (omega arith))) in simp x) in
        let o = sym (nest_alike word_shape (given l) (given e) (sym put_count) (λ m h. put_sub m) (λ m h. put_end m) (omega arith)) ∙ c.1 in
        simp (s, f, o)

-- rows 1 to 5 over tables have rows 1 to 4 in them
pub lawful_rows : (parts symbols l : List ℕ) → list_verdict parts symbols l ≡ passed → list_rows l ≡ passed
lawful_rows parts symbols l ok =
    let a = list_sound parts symbols l ok in
    let s = and_left (list_sized l) (own_tables parts symbols).sized a.sized in
    simp (s, rules_complete l a.ruled)

-- ---- of an admitted buffer

module _ (b : List ℕ) (k : ℕ) (parts symbols : List ℕ) where
  abbrev L : Listing (List ℕ)
  L = listing word_shape (own_reader b k parts symbols)

  -- "a tree number at or past the tree count or of a subtree"
  pub no_leaf_lem : (n : ℕ) → is_leaf b k parts symbols n ≡ false → (k ≤ n) ⊎ (sub word_shape L n ≡ true)
  unfolding is_leaf
  no_leaf_lem n e = go (ltb n k) refl
    where
      go : (x : Bool) → ltb n k ≡ x → (k ≤ n) ⊎ (sub word_shape L n ≡ true)
      go true q =
          let f : not (sub word_shape L n) ≡ false = simp q at e in
          inr (not-false (sub word_shape L n) f)
      go false q = inl (ltb-false n k q)

  pub leaf_no : (n : ℕ) → (k ≤ n) ⊎ (sub word_shape L n ≡ true) → is_leaf b k parts symbols n ≡ false
  unfolding is_leaf
  leaf_no n (inl h) = simp (le-ltb n k h)
  leaf_no n (inr s) = go (ltb n k)
    where
      go : (x : Bool) → (x && not (sub word_shape L n)) ≡ false
      go true = rw s
      go false = refl

  -- so the root is none
  pub root_no_leaf : buffer_check b k parts symbols ≡ passed → is_leaf b k parts symbols 0 ≡ false
  root_no_leaf ok = leaf_no 0 (inr (own_sound b k parts symbols ok).rooted)

  module _ (n : ℕ) (w : List ℕ) where
    abbrev new : List ℕ
    new = exchanged b k parts symbols n w

    module _ (ok : replace_verdict b k parts symbols n w ≡ passed) where
      verdicts : (buffer_check b k parts symbols ≡ passed) × (is_leaf b k parts symbols n ≡ true) × (leaf_fits w ≡ true)
      unfolding replace_verdict
      verdicts =
          let a = both (buffer_check b k parts symbols) (rule (is_leaf b k parts symbols n) 10 n and_then rule (leaf_fits w) 2 n) ok in
          let c = both (rule (is_leaf b k parts symbols n) 10 n) (rule (leaf_fits w) 2 n) a.1 in
          (a.0, rule_passed (is_leaf b k parts symbols n) 10 n c.0, rule_passed (leaf_fits w) 2 n c.1)

      pub replace_check : buffer_check b k parts symbols ≡ passed
      replace_check = verdicts.0

      pub replace_below : n < k
      unfolding is_leaf
      replace_below = ltb-true n k (and_left (ltb n k) (not (sub word_shape L n)) verdicts.1)

      pub replace_leaf : sub word_shape L n ≡ false
      unfolding is_leaf
      replace_leaf = not-true (sub word_shape L n) (and_right (ltb n k) (not (sub word_shape L n)) verdicts.1)

      pub replace_fits : leaf_fits w ≡ true
      replace_fits = verdicts.2

      abbrev old : List ℕ
      old = list_of b k parts symbols

      room : n < list_count old
      room = let c = list_count_lem b k parts symbols replace_check in let h = replace_below in omega arith

      pub exchanged_length : length new ≡ tree_size * k
      unfolding exchanged
      exchanged_length = put_size old n w room ∙ list_length b k parts symbols replace_check

      pub exchanged_count : list_count new ≡ k
      exchanged_count = let e = exchanged_length in omega arith

      pub exchanged_there : tree_list (word_of new n) ≡ leaf_words w
      unfolding exchanged
      exchanged_there = put_there old n w room

      pub exchanged_other : (m : ℕ) → m < k → (m ≡ n → ⊥) → tree_list (word_of new m) ≡ L.tree m
      unfolding exchanged
      exchanged_other m h d = put_other old n w room m d ∙ list_tree b k parts symbols replace_check m h

      -- rows 1 to 4 are silent on the new list
      pub exchanged_rows : list_rows new ≡ passed
      unfolding exchanged
      exchanged_rows =
          put_rows old n w room (lawful_rows parts symbols old (admitted_lawful b k parts symbols replace_check))
          (ap word_shape.is_sub (list_tree b k parts symbols replace_check n replace_below) ∙ replace_leaf) replace_fits

      -- … and rows 1 to 5 over fresh tables: the writer can but answer 6
      pub replace_only_6 : list_verdict (part_table new) (symbol_table new) new ≡ passed
      replace_only_6 = own_passes new exchanged_rows

      -- the fresh tables are no larger than the trees allow
      pub fresh_parts : part_total new ≤ 2 * k
      fresh_parts = let a = parts_most new in let c = exchanged_count in let h = replace_below in omega arith

      pub fresh_symbols : length (symbol_table new) ≤ k - 1
      fresh_symbols = let a = symbols_most new in let c = exchanged_count in omega arith

      -- ---- the new buffer, over fresh tables

      pub replace_passes : buffer_check (fresh_bytes new) k (part_table new) (symbol_table new) ≡ passed
      replace_passes = subst (λ x. buffer_check (fresh_bytes new) x (part_table new) (symbol_table new) ≡ passed) exchanged_count (packed_passes (part_table new) (symbol_table new) new replace_only_6)

      pub replace_reads : (m : ℕ) → m < k → (listing word_shape (own_reader (fresh_bytes new) k (part_table new) (symbol_table new))).tree m ≡ tree_list (word_of new m)
      replace_reads =
          subst (λ x. (m : ℕ) → m < x → (listing word_shape (own_reader (fresh_bytes new) x (part_table new) (symbol_table new))).tree m ≡ tree_list (word_of new m)) exchanged_count
          (packed_reads (part_table new) (symbol_table new) new replace_only_6)

      -- … the whole list
      pub replace_list : list_of (fresh_bytes new) k (part_table new) (symbol_table new) ≡ new
      unfolding list_of
      replace_list =
          subst (λ x. list_of (fresh_bytes new) x (part_table new) (symbol_table new) ≡ new) exchanged_count (packed_is (part_table new) (symbol_table new) new replace_only_6)

      -- it is admitted with as many trees; tree n is the new leaf, and every other what it was
      pub leaf_only : LeafOnly (own_reader b k parts symbols) (own_reader (fresh_bytes new) k (part_table new) (symbol_table new)) n (leaf_words w)
      unfolding own_reader
      leaf_only =
          record {
            admitted = own_sound (fresh_bytes new) k (part_table new) (symbol_table new) replace_passes;
            trees = refl;
            there = replace_reads n replace_below ∙ exchanged_there;
            others = λ m h d. replace_reads m h ∙ exchanged_other m h d;
          }

    -- ---- the refusals

    module _ (a c d : ℕ) where
      -- passed: the runs have room
      pub work_room : replace_work b k parts symbols n w a c d ≡ passed → (replace_verdict b k parts symbols n w ≡ passed) × (list_work k ≤ a) × (table_work k ≤ c) × (count_work k ≤ d)
      unfolding replace_work
      work_room e =
          let x = both (replace_verdict b k parts symbols n w) (rule (work_fits k a c d) 6 0) e in
          let y = and₃ (leb (list_work k) a) (leb (table_work k) c) (leb (count_work k) d) (rule_passed (work_fits k a c d) 6 0 x.1) in
          (x.0, leb-true (list_work k) a y.0, leb-true (table_work k) c y.1, leb-true (count_work k) d y.2)

      module _ (out out_parts out_symbols : List ℕ) where
        abbrev fit : Bool
        fit = out_fits (exchanged b k parts symbols n w) out out_parts out_symbols

        pub out_room : replace_out b k parts symbols n w a c d out out_parts out_symbols ≡ passed
            → (replace_work b k parts symbols n w a c d ≡ passed) × (length (fresh_bytes new) ≤ length out) × (length (part_table new) ≤ length out_parts) × (length (symbol_table new) ≤ length out_symbols)
        unfolding replace_out
        out_room e =
            let x = both (replace_work b k parts symbols n w a c d) (rule fit 6 0) e in
            let y = and₃ (leb (length (fresh_bytes new)) (length out)) (leb (length (part_table new)) (length out_parts)) (leb (length (symbol_table new)) (length out_symbols)) (rule_passed fit 6 0 x.1) in
            (x.0, leb-true _ _ y.0, leb-true _ _ y.1, leb-true _ _ y.2)

        -- number, tree number
        pub data ReplaceRow : ℕ → ℕ → Type 0 where
          -- the buffer's own check
          of_check : (r m : ℕ) → buffer_check b k parts symbols ≡ refused r m → ReplaceRow r m
          no_leaf : buffer_check b k parts symbols ≡ passed → is_leaf b k parts symbols n ≡ false → ReplaceRow 10 n
          bad_leaf : buffer_check b k parts symbols ≡ passed → is_leaf b k parts symbols n ≡ true → leaf_fits w ≡ false → ReplaceRow 2 n
          short_work : replace_verdict b k parts symbols n w ≡ passed → work_fits k a c d ≡ false → ReplaceRow 6 0
          short_out : replace_work b k parts symbols n w a c d ≡ passed → fit ≡ false → ReplaceRow 6 0

        leaf_row : (r m : ℕ) → replace_verdict b k parts symbols n w ≡ refused r m → ReplaceRow r m
        unfolding replace_verdict
        leaf_row r m e =
            let v = rule (is_leaf b k parts symbols n) 10 n in
            let u = rule (leaf_fits w) 2 n in
            then_refused (buffer_check b k parts symbols) (v and_then u) r m
            (of_check r m)
            (λ p f.
            then_refused v u r m
            (λ g.
            let x = rule_refused (is_leaf b k parts symbols n) 10 n r m g in
            renumber ReplaceRow x.1 x.2 (no_leaf p x.0))
            (λ q g.
            let x = rule_refused (leaf_fits w) 2 n r m g in
            renumber ReplaceRow x.1 x.2 (bad_leaf p (rule_passed (is_leaf b k parts symbols n) 10 n q) x.0))
            f)
            e

        pub refused_row : (r m : ℕ) → replace_out b k parts symbols n w a c d out out_parts out_symbols ≡ refused r m → ReplaceRow r m
        unfolding replace_out replace_work
        refused_row r m e =
            then_refused (replace_work b k parts symbols n w a c d) (rule fit 6 0) r m
            (λ f.
            then_refused (replace_verdict b k parts symbols n w) (rule (work_fits k a c d) 6 0) r m
            (leaf_row r m)
            (λ p g.
            let x = rule_refused (work_fits k a c d) 6 0 r m g in
            renumber ReplaceRow x.1 x.2 (short_work p x.0))
            f)
            (λ p f.
            let x = rule_refused fit 6 0 r m f in
            renumber ReplaceRow x.1 x.2 (short_out p x.0))
            e

        pub row_refused : (r m : ℕ) → ReplaceRow r m → replace_out b k parts symbols n w a c d out out_parts out_symbols ≡ refused r m
        unfolding replace_out replace_work replace_verdict
        row_refused r m (of_check s x e) = rw e
        row_refused r m (no_leaf p e) = simp (p, e)
        row_refused r m (bad_leaf p q e) = simp (p, q, e)
        row_refused r m (short_work p e) = rw (p, e)
        row_refused r m (short_out p e) = rw (p, e)

        pub replace_refused : (r m : ℕ) → (replace_out b k parts symbols n w a c d out out_parts out_symbols ≡ refused r m) ↔ ReplaceRow r m
        replace_refused r m = (refused_row r m, row_refused r m)
