-- The check of a packed buffer needs no table entry: it says the same over trees with indices, and the same over two tables of one size.
use Prim.Native.Nat.{ℕ, ◌/◌, ◌%◌}
use mathlib.Core.Bool.{Bool, true, false, ◌&&◌}
use mathlib.Core.Path.{◌≡◌, refl, ap, ◌∙◌}
use mathlib.Core.List.{List}
use lib.ListN.{length, get_or}
use lib.Dec.{leb, eqb}
use borrow.Author.Tests.{eq-eqb}
use Rattle.format.specs.Reader.{Reply, got, bad}
use Rattle.format.specs.Check.{check}
use Rattle.format.proofs.Sight.{sight, Alike, check_same}
use Rattle.format.specs.Tree.{Raw, punct, ident, literal, subtree, is_subtree, count_of, tree_at}
use Rattle.format.specs.Fields.{fields}
use Rattle.format.specs.Tables.{TableRules, Tables, rules, Mode, tree_words, mode_tables, count_rules, own_mode, own_tables}
use Rattle.format.specs.Buffer.{formed, judge, word_shape, raw_shape, reader, raw_reader, own_reader, buffer_check, size_reader}
use Rattle.format.specs.Width.{part_size}
use Rattle.format.proofs.Each.{true_false}

-- tables whose list words tell a subtree and its count
pub record Telling (T : Tables) : Type 0 where
  pub sort : (n : ℕ) (t : Raw) → word_shape.is_sub (T.words n t) ≡ is_subtree t
  pub count : (n : ℕ) (t : Raw) → is_subtree t ≡ true → word_shape.count (T.words n t) ≡ count_of t

module _ (T : Tables) (T' : TableRules) (k : Telling T) (same : (n : ℕ) (t : Raw) → T.judged n t ≡ T'.judged n t) (n p : ℕ) where
  got_same : (t : Raw) (next kids : ℕ) (c : Bool) → is_subtree t ≡ c → sight word_shape (got (T.words n t) next kids) ≡ sight raw_shape (got t next kids)
  unfolding sight
  got_same t next kids true e =
      let s = k.sort n t ∙ e in
      let c = k.count n t e in
      simp (s, e, c)
  got_same t next kids false e =
      let s = k.sort n t ∙ e in
      simp (s, e)

  sight_judged : (q : Reply Raw) → sight word_shape (judge T.words (rules T) n p q) ≡ sight raw_shape (judge (λ n t. t) T' n p q)
  unfolding sight judge
  sight_judged (bad r) = refl
  sight_judged (got t next kids) = go _ _ _ refl refl refl
    where
      go : (x y z : Bool) → formed n p next ≡ x → fields t ≡ y → eqb (T'.judged n t) 0 ≡ z
          → sight word_shape (judge T.words (rules T) n p (got t next kids)) ≡ sight raw_shape (judge (λ n t. t) T' n p (got t next kids))
      go false y z f g h = simp f
      go true false z f g h = simp (f, g)
      go true true false f g h = simp (f, g, same n t, h)
      go true true true f g h = simp (f, g, same n t, h) (got_same t next kids (is_subtree t) refl)

module _ (b : List ℕ) (k : ℕ) (T : Tables) (T' : TableRules) (w : Telling T) (s : T.sized ≡ T'.sized) (same : (n : ℕ) (t : Raw) → T.judged n t ≡ T'.judged n t) where
  pub raw_alike : Alike word_shape (reader b k T) raw_shape (raw_reader b k T')
  raw_alike =
      record {
        sized = ap (λ x. leb 1 k && leb k 1048576 && x) s;
        trees = refl;
        bytes = refl;
        flat = refl;
        flat' = refl;
        read = λ n p. sight_judged T T' w same n p (tree_at b p);
      }

  -- the check over list words is the check over trees with indices
  pub raw_check : check word_shape (reader b k T) ≡ check raw_shape (raw_reader b k T')
  raw_check = check_same word_shape (reader b k T) raw_shape (raw_reader b k T') raw_alike

pub mode_telling : (M : Mode) → Telling (mode_tables M)
unfolding tree_words
mode_telling M = record { sort = sorted; count = counted }
  where
    sorted : (n : ℕ) (t : Raw) → eqb (get_or (tree_words M n t) 0 0) 3 ≡ is_subtree t
    sorted n (punct s c x) = refl
    sorted n (ident s i r) = refl
    sorted n (literal s i k r x) = refl
    sorted n (subtree s t c d) = refl

    counted : (n : ℕ) (t : Raw) → is_subtree t ≡ true → get_or (tree_words M n t) 1 0 ≡ count_of t
    counted n (punct s c x) e = true_false false e refl
    counted n (ident s i r) e = true_false false e refl
    counted n (literal s i k r x) e = true_false false e refl
    counted n (subtree s t c d) e = refl

-- with whole parts the check needs the number of parts and of symbols, and no entry
pub own_check : (b : List ℕ) (k : ℕ) (parts symbols : List ℕ) → length parts % part_size ≡ 0
    → buffer_check b k parts symbols ≡ check raw_shape (size_reader b k (length parts / part_size) (length symbols))
unfolding own_reader size_reader
own_check b k parts symbols h =
    let e = eq-eqb (length parts % part_size) 0 h in
    raw_check b k (own_tables parts symbols) (count_rules (length parts / part_size) (length symbols)) (mode_telling (own_mode parts symbols)) (simp e) (λ n t. refl)
