-- The lister's text needs the numbers of parts and symbols, and no entry.
use Prim.Native.Nat.{ℕ, zero, suc, ◌+◌, ◌-◌, ◌/◌, ◌%◌, ◌≤◌}
use mathlib.Core.Bool.{Bool, true, false, ◌&&◌}
use mathlib.Core.Path.{◌≡◌, refl, sym, ap, ◌∙◌}
use mathlib.Core.List.{List}
use borrow.Author.Tests.{eqb-true, eq-eqb, le-ltb}
use lib.Dec.{eqb, leb}
use lib.ListN.{length, drop}
use Rattle.format.specs.Verdict.{Verdict, passed, refused}
use Rattle.format.specs.Reader.{Shape, Reader, Reply, got, bad}
use Rattle.format.specs.Plain.{sub}
use Rattle.format.specs.Nest.{around}
use Rattle.format.specs.Tree.{Raw, punct, ident, literal, subtree, tree_at}
use Rattle.format.specs.Fields.{fields}
use Rattle.format.specs.Check.{place_of, listing, tree_of}
use Rattle.format.specs.Width.{part_size}
use Rattle.format.specs.Tables.{rules, row_eight, limits, tree_words, own_mode, own_tables, count_rules, tables_sized}
use Rattle.format.specs.Buffer.{formed, judge, word_shape, raw_shape, own_reader, size_reader, buffer_check}
use Rattle.format.specs.Bundle.{Bundle, bundle, bundle_at, check_of}
use Rattle.format.specs.Loose.{loose_from}
use Rattle.format.specs.Lister.{sort_word, tree_line, tree_lines, buffer_lines, buffer_loose, bundle_text, lister_text}
use Rattle.format.proofs.Each.{and_left, and_right}
use Rattle.format.proofs.Sight.{place_same, sub_same, end_same, Alike}
use Rattle.format.proofs.RawReader.{raw_alike, mode_telling}
use Rattle.format.proofs.Own.{own_sound}
use Rattle.format.proofs.BundleLaw.{sizes_of, bundle_by_sizes}
use Rattle.bundle.proofs.Told.{Holds}
use Rattle.bundle.specs.declared.read.Contents.{Contents}
use Rattle.lister.specs.BySizes.{sort_of, size_lines, size_loose, size_listing, or_refusal, sizes_text}

-- ---- readers that show the same have the same subtrees around each tree

module _ {Tree Tree' : Type 0} (S : Shape Tree) (R : Reader Tree) (S' : Shape Tree') (R' : Reader Tree') (a : Alike S R S' R') where
  around_same : (n m : ℕ) → around S (listing S R) n m ≡ around S' (listing S' R') n m
  unfolding around
  around_same n zero = refl
  around_same n (suc m) = go _ refl (around_same n m)
    where
      go : (x : Bool) → sub S (listing S R) m ≡ x → around S (listing S R) n m ≡ around S' (listing S' R') n m → around S (listing S R) n (suc m) ≡ around S' (listing S' R') n (suc m)
      go true e rec =
          let f = sym (sub_same S R S' R' a m) ∙ e in
          let g = end_same S R S' R' a m e in
          simp (e, f, g, rec)
      go false e rec = let f = sym (sub_same S R S' R' a m) ∙ e in simp (e, f, rec)

  module _ (sort : Tree → ℕ) (sort' : Tree' → ℕ) (s : (n : ℕ) → sort ((listing S R).tree n) ≡ sort' ((listing S' R').tree n)) where
    line_same : (n : ℕ) → tree_line S sort R n ≡ tree_line S' sort' R' n
    unfolding tree_line
    line_same n =
        let p = place_same S R S' R' a n in
        let d = around_same n n in
        let q = s n in
        rw (p, d, q)

    lines_same : (j n : ℕ) → tree_lines S sort R j n ≡ tree_lines S' sort' R' j n
    unfolding tree_lines
    lines_same zero n = refl
    lines_same (suc j) n = let l = line_same n in let r = lines_same j (n + 1) in rw (l, r)

-- ---- the report on a tree is that of the bytes where it begins

loose_same : (b : List ℕ) (f g : ℕ → ℕ) → ((n : ℕ) → f n ≡ g n) → (j n : ℕ) → loose_from b f j n ≡ loose_from b g j n
unfolding loose_from
loose_same b f g e zero n = refl
loose_same b f g e (suc j) n = let h = e n in let r = loose_same b f g e j (n + 1) in rw (h, r)

-- ---- the sort of a tree, by its words and by itself

module _ (b : List ℕ) (k : ℕ) (parts symbols : List ℕ) where
  words_sort : (n : ℕ) (t : Raw) → sort_word (tree_words (own_mode parts symbols) n t) ≡ sort_of t
  unfolding tree_words sort_of
  words_sort n (punct s c x) = refl
  words_sort n (ident s i r) = refl
  words_sort n (literal s i k r x) = refl
  words_sort n (subtree s t c d) = refl

  sort_judged : (n p : ℕ) (q : Reply Raw)
      → sort_word (tree_of word_shape (own_reader b k parts symbols) (judge (own_tables parts symbols).words (rules (own_tables parts symbols)) n p q))
      ≡ sort_of (tree_of raw_shape (size_reader b k (length parts / part_size) (length symbols)) (judge (λ n t. t) (count_rules (length parts / part_size) (length symbols)) n p q))
  unfolding judge sort_of
  sort_judged n p (bad r) = refl
  sort_judged n p (got t next kids) = go _ _ _ refl refl refl
    where
      go : (x y z : Bool) → formed n p next ≡ x → fields t ≡ y → eqb (row_eight (limits (own_mode parts symbols)) n t) 0 ≡ z
          → sort_word (tree_of word_shape (own_reader b k parts symbols) (judge (own_tables parts symbols).words (rules (own_tables parts symbols)) n p (got t next kids)))
          ≡ sort_of (tree_of raw_shape (size_reader b k (length parts / part_size) (length symbols)) (judge (λ n t. t) (count_rules (length parts / part_size) (length symbols)) n p (got t next kids)))
      go false y z f g h = simp f
      go true false z f g h = simp (f, g)
      go true true false f g h = simp (f, g, h)
      go true true true f g h = simp (f, g, h) (words_sort n t)

  module _ (w : length parts % part_size ≡ 0) where
    alike : Alike word_shape (own_reader b k parts symbols) raw_shape (size_reader b k (length parts / part_size) (length symbols))
    unfolding own_reader size_reader
    alike =
        let e = eq-eqb (length parts % part_size) 0 w in
        raw_alike b k (own_tables parts symbols) (count_rules (length parts / part_size) (length symbols)) (mode_telling (own_mode parts symbols)) (simp e) (λ n t. refl)

    sort_same : (n : ℕ) → sort_word ((listing word_shape (own_reader b k parts symbols)).tree n) ≡ sort_of ((listing raw_shape (size_reader b k (length parts / part_size) (length symbols))).tree n)
    unfolding own_reader size_reader
    sort_same n =
        let p = place_same word_shape (own_reader b k parts symbols) raw_shape (size_reader b k (length parts / part_size) (length symbols)) alike n in
        ap (λ x. sort_word (tree_of word_shape (own_reader b k parts symbols) ((own_reader b k parts symbols).read n x))) p
        ∙ sort_judged n (place_of raw_shape (size_reader b k (length parts / part_size) (length symbols)) n) (tree_at b (place_of raw_shape (size_reader b k (length parts / part_size) (length symbols)) n))

    lines_by_sizes : buffer_lines b k parts symbols ≡ size_lines b k (length parts / part_size) (length symbols)
    unfolding size_lines
    lines_by_sizes = lines_same word_shape (own_reader b k parts symbols) raw_shape (size_reader b k (length parts / part_size) (length symbols)) alike sort_word sort_of sort_same k 0

    loose_by_sizes : buffer_loose b k parts symbols ≡ size_loose b k (length parts / part_size) (length symbols)
    unfolding buffer_loose size_loose
    loose_by_sizes =
        loose_same b (place_of word_shape (own_reader b k parts symbols)) (place_of raw_shape (size_reader b k (length parts / part_size) (length symbols)))
        (place_same word_shape (own_reader b k parts symbols) raw_shape (size_reader b k (length parts / part_size) (length symbols)) alike) (k - 1) 1

  -- a table that the check passes has whole parts
  whole_parts : buffer_check b k parts symbols ≡ passed → length parts % part_size ≡ 0
  unfolding own_reader
  whole_parts ok =
      let s = (own_sound b k parts symbols ok).sized in
      eqb-true (length parts % part_size) 0 (and_left (eqb (length parts % part_size) 0) (tables_sized (length parts / part_size) (length symbols)) (and_right (leb 1 k && leb k 1048576) _ s))

-- ---- the text of a bundle

same_text : (s s' : List ℕ) (k k' p p' y y' : ℕ) → s ≡ s' → k ≡ k' → p ≡ p' → y ≡ y' → sizes_text s k p y ≡ sizes_text s' k' p' y'
same_text s s' k k' p p' y y' e f g h = rw (e, f, g, h)

module _ (B : Bundle) where
  abbrev lines : List ℕ
  lines = size_listing B.bytes B.trees (length B.parts / part_size) (length B.symbols)

  text_of : (v : Verdict) → buffer_check B.bytes B.trees B.parts B.symbols ≡ v → bundle_text (bundle B) v ≡ or_refusal v lines
  text_of passed e =
      let w = whole_parts B.bytes B.trees B.parts B.symbols e in
      let x = loose_by_sizes B.bytes B.trees B.parts B.symbols w in
      let l = lines_by_sizes B.bytes B.trees B.parts B.symbols w in
      rw (x, l)
  text_of (refused r n) e = refl

pub bundle_text_lem : (b : List ℕ) (x : Contents) (B : Bundle) → Holds b x B → length b ≤ 65536 → lister_text b ≡ sizes_text (drop x.start b) x.trees x.parts x.symbols
unfolding sizes_text
bundle_text_lem b x B h s =
    let l = le-ltb 65536 (length b) s in
    let v = sym (ap check_of h.reads) ∙ bundle_by_sizes b ∙ ap sizes_of h.reads in
    let e : lister_text b ≡ bundle_text (bundle_at b) (check_of (bundle_at b)) = simp l in
    e ∙ ap (λ r. bundle_text r (check_of r)) h.reads ∙ text_of B (check_of (bundle B)) refl ∙ ap (λ z. or_refusal z (lines B)) v
    ∙ same_text _ _ _ _ _ _ _ _ (sym h.bytes) (sym h.trees) (sym h.parts) (sym h.symbols)
