-- The root of an admitted buffer, and a new root in its place: the buffer stays admitted, and what lies below is kept.
use Prim.Native.Nat.{ℕ, ◌+◌, ◌/◌, ◌%◌, ◌≤◌}
use mathlib.Core.Bool.{true, ◌&&◌}
use mathlib.Core.Path.{◌≡◌, refl, sym, ap, ◌∙◌}
use mathlib.Core.List.{List}
use native.Mathlib.Omega.{arith}
use borrow.Author.Tests.{eqb-true, leb-true}
use lib.Dec.{leb, eqb}
use lib.ListN.{length, get_or}
use Rattle.format.specs.Verdict.{passed}
use Rattle.format.specs.Word.{byte_at, word_at}
use Rattle.format.specs.Span.{Span}
use Rattle.format.specs.Reader.{Reader, got}
use Rattle.format.specs.Check.{place_of, listing, stored, Admitted}
use Rattle.format.specs.Tree.{Raw, punct, ident, literal, subtree, tree_at}
use Rattle.format.specs.Fields.{span_fits, fields}
use Rattle.format.specs.Tables.{rules, Tables, indexed_root, row_eight, Mode, limits, tree_words, mode_tables, part_count, own_tables}
use Rattle.format.specs.Buffer.{word_shape, reader, own_reader, buffer_check}
use Rattle.format.specs.Root.{RootOnly}
use Rattle.format.specs.Width.{part_size}
use Rattle.format.proofs.Each.{and_left, and_right, and₃}
use Rattle.format.proofs.CheckLaw.{check_sound}
use Rattle.format.proofs.Reading.{Clean, clean_read, each_clean}
use Rattle.format.proofs.RootRead.{RootStands, root_read, root_stands}
use Rattle.format.proofs.BelowRoot.{Kept, some, first_place, root_only, eight, eight_kept}

module _ (b : List ℕ) (k : ℕ) (M : Mode) where
  abbrev T : Tables
  T = mode_tables M

  abbrev R : Reader (List ℕ)
  R = reader b k T

  -- ---- the root of an admitted buffer

  pub record Root : Type 0 where
    pub opening : Span
    pub closing : Span
    pub stands : RootStands b opening closing
    pub first : eqb opening.index M.root ≡ true
    pub last : eqb closing.index (M.root + 1) ≡ true
    pub in_open : span_fits opening ≡ true
    pub in_close : span_fits closing ≡ true
    pub in_kind : leb (byte_at b 12 / 8) 3 ≡ true
    pub words : (listing word_shape R).tree 0 ≡ tree_words M 0 (subtree opening closing (word_at b 25) (byte_at b 12 / 8))
    pub kids : stored word_shape R 0 ≡ word_at b 29

  pub root_of_lem : Admitted word_shape R → Root
  unfolding place_of
  root_of_lem ad = go C.raw (C.stands ∙ ap (λ p. got C.raw p (stored word_shape R 0)) (first_place b k T ad)) C.row2 C.row8 C.shown
    where
      C : Clean T.words (rules T) 0 0 (tree_at b 0) ((listing word_shape R).tree 0) (place_of word_shape R 1) (stored word_shape R 0)
      C = each_clean word_shape T.words b k (rules T) ad 0 (some b k T ad)

      go : (t : Raw) → tree_at b 0 ≡ got t 33 (stored word_shape R 0) → fields t ≡ true → T.judged 0 t ≡ 0
          → (listing word_shape R).tree 0 ≡ tree_words M 0 t → Root
      go (punct s c x) e f g w = absurd (omega arith)
      go (ident s i r) e f g w = absurd (omega arith)
      go (literal s i l r x) e f g w = absurd (omega arith)
      go (subtree s t n d) e f g w =
          let S = root_stands b s t n d (stored word_shape R 0) e in
          let q = sym (root_read b s t S) ∙ e in
          let i : n ≡ word_at b 25 = cc in
          let j : d ≡ byte_at b 12 / 8 = cc in
          let l : stored word_shape R 0 ≡ word_at b 29 = cc in
          let a = and₃ (span_fits s) (span_fits t) (leb d 3) f in
          let x = eight (eqb s.index M.root && eqb t.index (M.root + 1)) g in
          record {
            opening = s;
            closing = t;
            stands = S;
            first = and_left (eqb s.index M.root) (eqb t.index (M.root + 1)) x;
            last = and_right (eqb s.index M.root) (eqb t.index (M.root + 1)) x;
            in_open = a.0;
            in_close = a.1;
            in_kind = rw j at a.2;
            words = rw (i, j) at w;
            kids = l;
          }

  -- ---- a new root over tables that keep all below it, with the count and the children bytes as they were

  module _ (ad : Admitted word_shape R) (c : List ℕ) (M' : Mode) (kept : Kept b c M M') (s t : Span) (d : ℕ)
      (e : tree_at c 0 ≡ got (subtree s t (word_at b 25) d) 33 (word_at b 29)) (f : fields (subtree s t (word_at b 25) d) ≡ true)
      (g : indexed_root (limits M) (subtree s t (word_at b 25) d) ≡ true) where
    pub rewritten : RootOnly R (reader c k (mode_tables M')) (tree_words M' 0 (subtree s t (word_at b 25) d))
    unfolding tree_words
    rewritten =
        let r = root_of_lem ad in
        let row8 : row_eight (limits M') 0 (subtree s t (word_at b 25) d) ≡ 0 = eight_kept b c k M M' kept 0 (subtree s t (word_at b 25) d) ∙ simp g in
        root_only b c k M M' kept ad (tree_words M' 0 (subtree s t (word_at b 25) d))
        (clean_read (tree_words M') (rules (mode_tables M')) 0 0 (tree_at c 0) _ 33 (stored word_shape R 0)
        (record { raw = subtree s t (word_at b 25) d; stands = rw r.kids e; form = refl; row2 = f; row8 = row8; shown = refl }))
        refl refl
        (sym (ap (λ w. get_or w 1 0) r.words))

-- ---- document 01's mode

module _ (b : List ℕ) (k : ℕ) (parts symbols : List ℕ) where
  abbrev own : Reader (List ℕ)
  own = reader b k (own_tables parts symbols)

  abbrev P : ℕ
  P = part_count parts symbols

  pub admitted : buffer_check b k parts symbols ≡ passed → Admitted word_shape own
  unfolding own_reader
  admitted ok = check_sound word_shape own ok

  -- ---- the sizes of its tables

  pub record Sizes : Type 0 where
    pub whole : length parts % part_size ≡ 0
    pub two : 2 ≤ P
    pub many : P ≤ 2097152

  pub sizes : Admitted word_shape own → Sizes
  sizes ad =
      let t = and_right (leb 1 k && leb k 1048576) (own_tables parts symbols).sized ad.sized in
      let u = and_right (eqb (length parts % part_size) 0) (leb 2 P && leb P 2097152 && leb (length symbols) 1048576) t in
      let v = and₃ (leb 2 P) (leb P 2097152) (leb (length symbols) 1048576) u in
      record {
        whole = eqb-true (length parts % part_size) 0 (and_left (eqb (length parts % part_size) 0) (leb 2 P && leb P 2097152 && leb (length symbols) 1048576) t);
        two = leb-true 2 P v.0;
        many = leb-true P 2097152 v.1;
      }
