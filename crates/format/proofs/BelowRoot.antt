-- A buffer whose root alone is rewritten: it is admitted too, with the same places and the same trees below the root.
use Prim.Native.Nat.{ℕ, zero, suc, ◌+◌, ◌*◌, ◌≤◌, ◌<◌}
use mathlib.Core.Bool.{Bool, true, false, ◌&&◌}
use mathlib.Core.Path.{◌≡◌, refl, sym, ap, ◌∙◌, subst}
use mathlib.Core.List.{List, ◌∷◌, ◌++◌}
use native.Mathlib.Omega.{arith}
use native.Mathlib.Numerals.{add-one}
use borrow.Author.Tests.{eqb-true, ne_eqb, ltb-true, leb-true}
use lib.Dec.{leb, eqb}
use lib.ListN.{length, get_or}
use Rattle.std.specs.Prelude.{if◌then◌else◌}
use Rattle.format.specs.Word.{byte_at}
use Rattle.format.specs.Span.{Span}
use Rattle.format.specs.Reader.{Shape, Reader, Reply, got}
use Rattle.format.specs.Plain.{Listing, end_of, sub}
use Rattle.format.specs.Nest.{around, Nested}
use Rattle.format.specs.Check.{next_of, kids_of, tree_of, place_of, reading, listing, stored, Admitted}
use Rattle.format.specs.Tree.{Raw, punct, ident, literal, subtree, tree_at}
use Rattle.format.specs.Tables.{rules, Tables, Limits, part_in, symbol_in, indexed_below, row_eight, Mode, limits, span_words, tree_words, mode_tables}
use Rattle.format.specs.Buffer.{judge, word_shape, reader}
use Rattle.format.specs.Root.{RootOnly}
use Rattle.format.specs.Width.{tree_size}
use Rattle.format.specs.Part.{part_at, span_list, no_span}
use Rattle.format.proofs.Each.{and_left, and_right, and₃}
use Rattle.format.proofs.TreeBounds.{Ended, tree_ended}
use Rattle.format.proofs.CheckLaw.{next_place}
use Rattle.format.proofs.Reading.{Clean, clean_read, each_clean}
use Rattle.format.proofs.Local.{tree_from_lem}

-- ---- nesting turns on the subtrees and their ends alone

module _ {Tree : Type 0} (S : Shape Tree) (L M : Listing Tree) (size : M.k ≡ L.k)
    (subs : (n : ℕ) → n < L.k → sub S M n ≡ sub S L n) (ends : (n : ℕ) → n < L.k → end_of S M n ≡ end_of S L n) where
  around_kept : (n m : ℕ) → m ≤ L.k → around S M n m ≡ around S L n m
  unfolding around
  around_kept n zero h = refl
  around_kept n (suc m) h =
      let e = ends m h in
      let f = subs m h in
      let r = around_kept n m (omega arith) in
      simp (e, f, r)

  pub nested_kept : Nested S L → Nested S M
  nested_kept ne =
      record {
        in_list = λ n l s.
            let l' : n < L.k = omega arith in
            let e = ends n l' in
            let a = ne.in_list n l' (sym (subs n l') ∙ s) in
            omega arith;
        in_other = λ m n o l g s t.
            let l' : n < L.k = omega arith in
            let m' : m < L.k = omega arith in
            let e = ends n l' in
            let f = ends m m' in
            let a = ne.in_other m n o l' (omega arith) (sym (subs m m') ∙ s) (sym (subs n l') ∙ t) in
            omega arith;
        shallow = λ n l.
            let l' : n < L.k = omega arith in
            let a = around_kept n (n + 1) (omega arith) in
            let b = ne.shallow n l' in
            omega arith;
      }

-- old and new buffer and tables: all that lies below the root is as it was
pub record Kept (b c : List ℕ) (M M' : Mode) : Type 0 where
  pub size : length c ≡ length b
  pub bytes : (i : ℕ) → 33 ≤ i → byte_at c i ≡ byte_at b i
  pub sized : M'.sized ≡ M.sized
  pub limit : M'.limit ≡ M.limit
  pub root : M'.root ≡ M.root
  pub symbols : M'.symbols ≡ M.symbols
  pub entries : (i : ℕ) → i < M.limit → part_at M'.parts i ≡ part_at M.parts i

-- ---- the words of a tree below the root

module _ (b c : List ℕ) (M M' : Mode) (kept : Kept b c M M') (n : ℕ) (z : eqb n 0 ≡ false) where
  abbrev N : Limits
  N = limits M

  span_words_lem : (s : Span) → part_in N s ≡ true → span_words M' n s ≡ span_words M n s
  span_words_lem s h =
      let e = kept.entries s.index (ltb-true s.index M.limit h) in
      simp z (ap (λ p. span_list (record { part = p; start = s.start; len = s.len })) e)

  pub words_kept : (t : Raw) → indexed_below N t ≡ true → tree_words M' n t ≡ tree_words M n t
  unfolding tree_words
  words_kept (punct s c x) h = ap (λ w. 0 ∷ c ∷ x ∷ w ++ span_list no_span) (span_words_lem s h)
  words_kept (ident s i r) h =
      let e = span_words_lem s (and_left (part_in N s) (symbol_in N i) h) in
      λ x. 1 ∷ get_or (kept.symbols x) i 0 ∷ r ∷ e x ++ span_list no_span
  words_kept (literal s i k r x) h =
      let e = span_words_lem s (and_left (part_in N s) (symbol_in N i) h) in
      λ y. 2 ∷ get_or (kept.symbols y) i 0 ∷ (k + 256 * r + 65536 * x) ∷ e y ++ span_list no_span
  words_kept (subtree s t k d) h =
      let e = span_words_lem s (and_left (part_in N s) (part_in N t) h) in
      let f = span_words_lem t (and_right (part_in N s) (part_in N t) h) in
      λ i. 3 ∷ k ∷ d ∷ e i ++ f i

-- ---- the places in an admitted buffer: tree 1 begins at byte 33, and no later tree before it

module _ (b : List ℕ) (k : ℕ) (T : Tables) (ad : Admitted word_shape (reader b k T)) where
  abbrev place : ℕ → ℕ
  place = place_of word_shape (reader b k T)

  pub some : 0 < k
  some =
      let a = and₃ (leb 1 k) (leb k 1048576) T.sized ad.sized in
      leb-true 1 k a.0

  pub first_place : place 1 ≡ 33
  unfolding place_of
  first_place = eqb-true (place 1) 33 (each_clean word_shape T.words b k (rules T) ad 0 some).form

  pub later_place : (n : ℕ) → n < k → 33 ≤ place (suc n)
  later_place zero h = let e = first_place in omega arith
  later_place (suc n) h =
      let a = later_place n (omega arith) in
      let C = each_clean word_shape T.words b k (rules T) ad (suc n) h in
      let p : ℕ = place (suc n) in
      let l : p + 5 ≤ place (suc n + 1) = (subst (Ended b p) C.stands (tree_ended b p)).0 in
      let l' : p + 5 ≤ place (suc (suc n)) = rw add-one at l in
      omega arith

-- ---- the buffer

-- row 8 is silent
pub eight : (x : Bool) → ◌≡◌ {A = ℕ} (if x then 0 else 8) 0 → x ≡ true
eight true e = refl
eight false e = absurd (omega arith)

module _ (b c : List ℕ) (k : ℕ) (M M' : Mode) (kept : Kept b c M M') where
  abbrev T : Tables
  T = mode_tables M

  abbrev T' : Tables
  T' = mode_tables M'

  pub eight_kept : (n : ℕ) (t : Raw) → row_eight (limits M') n t ≡ row_eight (limits M) n t
  eight_kept n t = λ i. row_eight (record { limit = kept.limit i; root = kept.root i; symbols = length (kept.symbols i) }) n t

  abbrev R : Reader (List ℕ)
  R = reader b k T

  abbrev R' : Reader (List ℕ)
  R' = reader c k T'

  clean_kept : (n p : ℕ) (w : List ℕ) (next kids : ℕ) → eqb n 0 ≡ false → 33 ≤ p → Clean T.words (rules T) n p (tree_at b p) w next kids
      → Clean T'.words (rules T') n p (tree_at c p) w next kids
  clean_kept n p w next kids z h C =
      let t = C.raw in
      let r8 = C.row8 in
      let i : indexed_below (limits M) t ≡ true = eight (indexed_below (limits M) t) (simp z at r8) in
      record {
        raw = t;
        stands = tree_from_lem c b p kept.size (λ i l. kept.bytes i (omega arith)) ∙ C.stands;
        form = C.form;
        row2 = C.row2;
        row8 = eight_kept n t ∙ r8;
        shown = C.shown ∙ sym (words_kept b c M M' kept n z t i);
      }

  module _ (ad : Admitted word_shape R) where
    -- the new root: w are its words, of the same count
    module _ (w : List ℕ) (root : judge T'.words (rules T') 0 0 (tree_at c 0) ≡ got w 33 (stored word_shape R 0))
        (size : length w ≡ tree_size) (sort : word_shape.is_sub w ≡ true) (count : word_shape.count w ≡ word_shape.count ((listing word_shape R).tree 0)) where
      reads_kept : (n : ℕ) → suc n < k → place_of word_shape R' (suc n) ≡ place_of word_shape R (suc n) → reading word_shape R' (suc n) ≡ reading word_shape R (suc n)
      reads_kept n h e =
          let p : ℕ = place_of word_shape R (suc n) in
          let C = each_clean word_shape T.words b k (rules T) ad (suc n) h in
          let D = clean_kept (suc n) p _ _ _ (ne_eqb (suc n) 0 (omega arith)) (later_place b k T ad n (omega arith)) C in
          ap (λ q. R'.read (suc n) q) e ∙ clean_read T'.words (rules T') (suc n) p (tree_at c p) _ _ _ D ∙ sym (ad.readable (suc n) h)

      root_reads : reading word_shape R' 0 ≡ got w 33 (stored word_shape R 0)
      unfolding place_of
      root_reads = root

      place_kept : (n : ℕ) → n ≤ k → place_of word_shape R' n ≡ place_of word_shape R n
      unfolding place_of
      place_kept zero h = refl
      place_kept (suc zero) h = ap next_of root_reads ∙ sym (first_place b k T ad)
      place_kept (suc (suc n)) h = ap next_of (reads_kept n h (place_kept (suc n) (omega arith)))

      below_kept : (n : ℕ) → suc n < k → reading word_shape R' (suc n) ≡ reading word_shape R (suc n)
      below_kept n h = reads_kept n h (place_kept (suc n) (omega arith))

      sub_kept : (n : ℕ) → n < k → sub word_shape (listing word_shape R') n ≡ sub word_shape (listing word_shape R) n
      sub_kept zero h = ap (λ r. word_shape.is_sub (tree_of word_shape R r)) root_reads ∙ sort ∙ sym ad.rooted
      sub_kept (suc n) h = ap (λ r. word_shape.is_sub (tree_of word_shape R r)) (below_kept n h)

      end_kept : (n : ℕ) → n < k → end_of word_shape (listing word_shape R') n ≡ end_of word_shape (listing word_shape R) n
      end_kept zero h = ap (λ r. 0 + 1 + word_shape.count (tree_of word_shape R r)) root_reads ∙ ap (λ m. 0 + 1 + m) count
      end_kept (suc n) h = ap (λ r. suc n + 1 + word_shape.count (tree_of word_shape R r)) (below_kept n h)

      stored_kept : (n : ℕ) → n < k → stored word_shape R' n ≡ stored word_shape R n
      stored_kept zero h = ap kids_of root_reads
      stored_kept (suc n) h = ap kids_of (below_kept n h)

      is_got : (r : Reply (List ℕ)) (t : List ℕ) (p q : ℕ) → r ≡ got t p q → r ≡ got (tree_of word_shape R' r) (next_of r) (kids_of r)
      is_got r t p q e = rw e

      readable : (n : ℕ) → n < k → reading word_shape R' n ≡ got ((listing word_shape R').tree n) (place_of word_shape R' (n + 1)) (stored word_shape R' n)
      readable zero h = rw (next_place word_shape R' 0) (is_got (reading word_shape R' 0) _ _ _ root_reads)
      readable (suc n) h = rw (next_place word_shape R' (suc n)) (is_got (reading word_shape R' (suc n)) _ _ _ (below_kept n h ∙ ad.readable (suc n) h))

      below : (n : ℕ) → 0 < n → n < k → (listing word_shape R').tree n ≡ (listing word_shape R).tree n
      below zero l h = absurd (omega arith)
      below (suc n) l h = ap (tree_of word_shape R) (below_kept n h)

      admitted : Admitted word_shape R'
      admitted =
          let h = some b k T ad in
          record {
            sized = ap (λ x. leb 1 k && leb k 1048576 && x) kept.sized ∙ ad.sized;
            readable = readable;
            whole = place_kept k (omega arith) ∙ ad.whole ∙ sym kept.size;
            rooted = sub_kept 0 h ∙ ad.rooted;
            holds_all = end_kept 0 h ∙ ad.holds_all;
            nested = nested_kept word_shape (listing word_shape R) (listing word_shape R') refl sub_kept end_kept ad.nested;
            honest = λ n h s.
                let s' = sym (sub_kept n h) ∙ s in
                let a = ad.honest n h s' in
                let i = ad.nested.in_list n h s' in
                let e = end_kept n h in
                let f = place_kept (n + 1) (omega arith) in
                let g = stored_kept n h in
                let j = place_kept (end_of word_shape (listing word_shape R) n) i in
                rw (e, f, g, j) a;
          }

      pub root_only : RootOnly R R' w
      root_only =
          record {
            admitted = admitted;
            trees = refl;
            bytes = kept.size;
            places = place_kept;
            below = below;
            root = ap (tree_of word_shape R) root_reads;
            size = size;
          }
