-- Which row refuses a tree that is read and judged: "tree by tree 7, 2, 8".
use Prim.Native.Nat.{ℕ, ◌+◌}
use mathlib.Core.Bool.{Bool, true, false}
use mathlib.Core.Path.{◌≡◌, refl, sym, ◌∙◌, subst}
use mathlib.Core.List.{List}
use mathlib.Core.Logic.{◌⊎◌, inl, inr, ⊎_elim}
use native.Mathlib.Omega.{arith}
use borrow.Author.Tests.{eqb-true, eqb-false, eq-eqb, ne_eqb}
use lib.Dec.{eqb}
use Rattle.std.specs.Prelude.{if◌then◌else◌}
use Rattle.format.specs.Verdict.{refused}
use Rattle.format.specs.Reader.{Shape, Reader, Reply, got, bad}
use Rattle.format.specs.Check.{place_of, reading, listing}
use Rattle.format.specs.Tree.{Raw, tree_at}
use Rattle.format.specs.Fields.{fields}
use Rattle.format.specs.Tables.{TableRules, Limits, indexed_below, indexed_root, row_eight, limits, own_limits, count_rules, rules, own_mode, own_tables}
use Rattle.format.specs.Buffer.{formed, judge, reader_as, word_shape, raw_shape, own_reader, buffer_check, size_reader}
use Rattle.format.proofs.CheckRefusal.{Refused, size, tree, left, root, nesting, count, check_refusal, refused_check}
use Rattle.format.proofs.NestLaw.{Why, passes_other, passes_list, deep}
use Rattle.format.proofs.RootForm.{Form, root_form, form_root}
use Rattle.format.proofs.Unread.{Cut, Early, Disagrees, unread, cut_seven, early_two, disagrees_two}

module _ {A : Type 0} (show : ℕ → Raw → A) (T : TableRules) (n p : ℕ) where
  -- tree n at place p, of which this was read: its bytes, then its form and fields, then its indices
  pub data Row : Reply Raw → ℕ → Type 0 where
    bytes : (r : ℕ) → Row (bad r) r
    shape : (t : Raw) (next kids : ℕ) → formed n p next ≡ false → Row (got t next kids) 2
    range : (t : Raw) (next kids : ℕ) → formed n p next ≡ true → fields t ≡ false → Row (got t next kids) 2
    table : (t : Raw) (next kids : ℕ) → formed n p next ≡ true → fields t ≡ true → (T.judged n t ≡ 0 → ⊥) → Row (got t next kids) (T.judged n t)

  got_not : {B : Type 0} (w : A) (q k r : ℕ) → got w q k ≡ bad r → B
  got_not w q k r e = let z : ◌≡◌ {A = ℕ} 0 1 = cc in absurd (omega arith)

  same_bad : (a r : ℕ) → ◌≡◌ {A = Reply A} (bad a) (bad r) → a ≡ r
  same_bad a r e = cc

  pub judge_row : (x : Reply Raw) (r : ℕ) → judge show T n p x ≡ bad r → Row x r
  unfolding judge
  judge_row (bad a) r e = subst (Row (bad a)) (same_bad a r e) (bytes a)
  judge_row (got t q k) r e = go _ _ _ refl refl refl
    where
      go : (x y z : Bool) → formed n p q ≡ x → fields t ≡ y → eqb (T.judged n t) 0 ≡ z → Row (got t q k) r
      go false y z f g h = subst (Row (got t q k)) (same_bad 2 r (simp f at e)) (shape t q k f)
      go true false z f g h = subst (Row (got t q k)) (same_bad 2 r (simp (f, g) at e)) (range t q k f g)
      go true true false f g h = subst (Row (got t q k)) (same_bad (T.judged n t) r (simp (f, g, h) at e)) (table t q k f g (eqb-false (T.judged n t) 0 h))
      go true true true f g h = got_not (show n t) q k r (simp (f, g, h) at e)

  pub row_judge : (x : Reply Raw) (r : ℕ) → Row x r → judge show T n p x ≡ bad r
  unfolding judge
  row_judge x r (bytes a) = refl
  row_judge x r (shape t q k f) = simp f
  row_judge x r (range t q k f g) = simp (f, g)
  row_judge x r (table t q k f g h) = let i = ne_eqb (T.judged n t) 0 h in simp (f, g, i)

-- tree n of a buffer, where the trees before it are read
module _ {A : Type 0} (S : Shape A) (show : ℕ → Raw → A) (b : List ℕ) (k : ℕ) (T : TableRules) (n : ℕ) where
  abbrev place : ℕ
  place = place_of S (reader_as show b k T) n

  pub reading_row : (r : ℕ) → reading S (reader_as show b k T) n ≡ bad r → Row show T n place (tree_at b place) r
  reading_row r e = judge_row show T n place (tree_at b place) r e

  pub row_reading : (r : ℕ) → Row show T n place (tree_at b place) r → reading S (reader_as show b k T) n ≡ bad r
  row_reading r e = row_judge show T n place (tree_at b place) r e

-- tree 0 is formed exactly where it stands in the root's form
module _ (b : List ℕ) (p : ℕ) (t : Raw) (next kids : ℕ) (e : tree_at b p ≡ got t next kids) where
  pub formed_form : formed 0 p next ≡ true → Form b p
  formed_form f = let q = eqb-true next (p + 33) f in root_form b p t kids (e ∙ rw q)

  pub form_formed : Form b p → formed 0 p next ≡ true
  form_formed f = eq-eqb next (p + 33) (form_root b p t next kids f e)

-- ---- by the sizes of the tables: 7, 2 or 8

module _ (b : List ℕ) (N : Limits) (n p : ℕ) where
  pub data TreeRow : ℕ → Type 0 where
    cut : Cut b p → TreeRow 7
    early : Early b p → TreeRow 2
    bits : Disagrees b p → TreeRow 2
    form : (t : Raw) (next kids : ℕ) → tree_at b p ≡ got t next kids → formed n p next ≡ false → TreeRow 2
    field : (t : Raw) (next kids : ℕ) → tree_at b p ≡ got t next kids → formed n p next ≡ true → fields t ≡ false → TreeRow 2
    index : (t : Raw) (next kids : ℕ) → tree_at b p ≡ got t next kids → formed n p next ≡ true → fields t ≡ true
        → (if eqb n 0 then indexed_root N t else indexed_below N t) ≡ false → TreeRow 8

  module _ {A : Type 0} (show : ℕ → Raw → A) (T : TableRules) (eight : (t : Raw) → T.judged n t ≡ row_eight N n t) where
    tree_row_of : (x : Reply Raw) (r : ℕ) → tree_at b p ≡ x → Row show T n p x r → TreeRow r
    tree_row_of x r e (bytes a) =
        ⊎_elim (λ i. subst TreeRow (sym i.0) (cut i.1)) (λ i. subst TreeRow (sym i.0) (⊎_elim early bits i.1)) (unread b p a e)
    tree_row_of x r e (shape t q k f) = form t q k e f
    tree_row_of x r e (range t q k f g) = field t q k e f g
    tree_row_of x r e (table t q k f g h) = go _ refl
      where
        go : (z : Bool) → (if eqb n 0 then indexed_root N t else indexed_below N t) ≡ z → TreeRow (T.judged n t)
        go true i = absurd (h (eight t ∙ simp i))
        go false i = subst TreeRow (sym (eight t ∙ simp i)) (index t q k e f g i)

    pub tree_row : (r : ℕ) → judge show T n p (tree_at b p) ≡ bad r → TreeRow r
    tree_row r e = tree_row_of (tree_at b p) r refl (judge_row show T n p (tree_at b p) r e)

    pub row_tree : (r : ℕ) → TreeRow r → judge show T n p (tree_at b p) ≡ bad r
    unfolding judge
    row_tree r (cut h) = rw (cut_seven b p h)
    row_tree r (early h) = rw (early_two b p h)
    row_tree r (bits h) = rw (disagrees_two b p h)
    row_tree r (form t q k e f) = rw e (simp f)
    row_tree r (field t q k e f g) = rw e (simp (f, g))
    row_tree r (index t q k e f g h) = rw e (simp (f, g, eight t, h))

pub row_numbers : (b : List ℕ) (N : Limits) (n p r : ℕ) → TreeRow b N n p r → (r ≡ 7) ⊎ ((r ≡ 2) ⊎ (r ≡ 8))
row_numbers b N n p r (cut e) = inl refl
row_numbers b N n p r (early h) = inr (inl refl)
row_numbers b N n p r (bits h) = inr (inl refl)
row_numbers b N n p r (form t q k e f) = inr (inl refl)
row_numbers b N n p r (field t q k e f g) = inr (inl refl)
row_numbers b N n p r (index t q k e f g h) = inr (inr refl)

-- ---- the check of a stored buffer

module _ (b : List ℕ) (k : ℕ) (parts symbols : List ℕ) where
  abbrev R : Reader (List ℕ)
  R = own_reader b k parts symbols

  abbrev pub OwnRow : ℕ → ℕ → Type 0
  OwnRow n r = TreeRow b (limits (own_mode parts symbols)) n (place_of word_shape R n) r

  pub own_row : (n r : ℕ) → reading word_shape R n ≡ bad r → OwnRow n r
  unfolding own_reader
  own_row n r e =
      let T = own_tables parts symbols in
      tree_row b (limits (own_mode parts symbols)) n (place_of word_shape R n) T.words (rules T) (λ t. refl) r e

  pub row_own : (n r : ℕ) → OwnRow n r → reading word_shape R n ≡ bad r
  unfolding own_reader
  row_own n r e =
      let T = own_tables parts symbols in
      row_tree b (limits (own_mode parts symbols)) n (place_of word_shape R n) T.words (rules T) (λ t. refl) r e

  pub own_numbers : (n r : ℕ) → reading word_shape R n ≡ bad r → (r ≡ 7) ⊎ ((r ≡ 2) ⊎ (r ≡ 8))
  own_numbers n r e = row_numbers b (limits (own_mode parts symbols)) n (place_of word_shape R n) r (own_row n r e)

  -- a refusal is given exactly where its row holds and no earlier check fails
  pub own_refusal : (r n : ℕ) → buffer_check b k parts symbols ≡ refused r n → Refused word_shape R r n
  own_refusal = check_refusal word_shape R

  pub refusal_own : (r n : ℕ) → Refused word_shape R r n → buffer_check b k parts symbols ≡ refused r n
  refusal_own = refused_check word_shape R

  -- its numbers are 1, 2, 3, 4, 7, 8 and 9
  pub own_no_six : (r n : ℕ) → buffer_check b k parts symbols ≡ refused r n → r ≡ 6 → ⊥
  own_no_six r n e = go r n (own_refusal r n e)
    where
      reads : (q : ℕ) → (q ≡ 7) ⊎ ((q ≡ 2) ⊎ (q ≡ 8)) → q ≡ 6 → ⊥
      reads q (inl i) f = absurd (omega arith)
      reads q (inr (inl i)) f = absurd (omega arith)
      reads q (inr (inr i)) f = absurd (omega arith)

      nests : (q m : ℕ) → Why word_shape (listing word_shape R) q m → q ≡ 6 → ⊥
      nests q m (passes_other o x h f g u v) i = absurd (omega arith)
      nests q m (passes_list x f h) i = absurd (omega arith)
      nests q m (deep x f g h) i = absurd (omega arith)

      go : (q m : ℕ) → Refused word_shape R q m → q ≡ 6 → ⊥
      go q m (size s) i = absurd (omega arith)
      go q m (tree s t z l f g) i = reads s (own_numbers t s f) i
      go q m (left s f) i = absurd (omega arith)
      go q m (root s f g) i = absurd (omega arith)
      go q m (nesting s t z f) i = nests s t f.why i
      go q m (count t s f g h j o) i = absurd (omega arith)

-- ---- the same where only the sizes of the tables are known

module _ (b : List ℕ) (k parts symbols : ℕ) where
  abbrev pub SizeRow : ℕ → ℕ → Type 0
  SizeRow n r = TreeRow b (own_limits parts symbols) n (place_of raw_shape (size_reader b k parts symbols) n) r

  pub size_row : (n r : ℕ) → reading raw_shape (size_reader b k parts symbols) n ≡ bad r → SizeRow n r
  unfolding size_reader
  size_row n r e = tree_row b (own_limits parts symbols) n (place_of raw_shape (size_reader b k parts symbols) n) (λ n t. t) (count_rules parts symbols) (λ t. refl) r e

  pub row_size : (n r : ℕ) → SizeRow n r → reading raw_shape (size_reader b k parts symbols) n ≡ bad r
  unfolding size_reader
  row_size n r e = row_tree b (own_limits parts symbols) n (place_of raw_shape (size_reader b k parts symbols) n) (λ n t. t) (count_rules parts symbols) (λ t. refl) r e
