-- What a caller learns from a decoded tree: compared by list words, it is what the definitions' reader reads.
use Prim.Native.Nat.{ℕ}
use mathlib.Core.Bool.{Bool, true, false}
use mathlib.Core.Path.{◌≡◌, refl, sym, ap, ◌∙◌}
use mathlib.Core.List.{List}
use lib.Dec.{eqb}
use Rattle.std.specs.Prelude.{Result, Ok, Err}
use Rattle.format.specs.Reader.{Reply, got, bad}
use Rattle.format.specs.Tree.{Raw, tree_at}
use Rattle.format.specs.Fields.{fields}
use Rattle.format.specs.Tables.{TableRules, rules, row_eight, Mode, limits, tree_words, mode_tables}
use Rattle.format.specs.Buffer.{formed, judge, reader}
use Rattle.tree.specs.Raw.{RawAt, raw_of, raw_answer}
use Rattle.tree.specs.Types.{resolved, tree_words_of}
use Rattle.decode.specs.Judge.{limit_rules}
use Rattle.decode.specs.Decode.{TreeAt, tree_answer, read_in}
use Rattle.tree.specs.Mode.{limits_of, mode_of, Whole}
use Rattle.tree.specs.declared.limits.Limits.{Limits}
use Rattle.tree.specs.declared.types.TokenTree.{TokenTree}
use Rattle.tree.proofs.TypesWords.{resolved_words}
use Rattle.decode.proofs.ReadUse.{reply_bad}
use Rattle.decode.proofs.JudgeUse.{judged_read, judged_passed}

-- ---- answers and replies

of_ok : (z : Reply TokenTree) (y : TreeAt) → Ok y ≡ tree_answer z → z ≡ got y.tree y.next y.children.0
unfolding tree_answer
of_ok (got t n k) y e = let d : y ≡ record { tree = t; next = n; children = record { 0 = k } } = cc in rw d
of_ok (bad r) y e = cc

of_err : (z : Reply TokenTree) (k : ℕ) → Err k ≡ tree_answer z → z ≡ bad k
unfolding tree_answer
of_err (got t n j) k e = cc
of_err (bad r) k e = cc

module _ (z : Reply TokenTree) (r : Result TreeAt ℕ) (e : r ≡ tree_answer z) where
  pub decoded_got : (y : TreeAt) → r ≡ Ok y → z ≡ got y.tree y.next y.children.0
  decoded_got y k = of_ok z y (sym k ∙ e)

  pub decoded_refused : (k : ℕ) → r ≡ Err k → z ≡ bad k
  decoded_refused k q = of_err z k (sym q ∙ e)

-- ---- list words

abbrev pub worded : Reply TokenTree → Reply (List ℕ)
worded (got t n k) = got (tree_words_of t) n k
worded (bad r) = bad r

module _ (M : Mode) (n at : ℕ) where
  words_judged : (z : Reply Raw) → worded (judge (resolved M) (rules (mode_tables M)) n at z)
      ≡ judge (tree_words M) (rules (mode_tables M)) n at z
  unfolding judge
  words_judged (bad r) = refl
  words_judged (got t m k) = go (formed n at m) (fields t) (eqb (row_eight (limits M) n t) 0) refl refl refl
    where
      go : (x y w : Bool) → formed n at m ≡ x → fields t ≡ y → eqb (row_eight (limits M) n t) 0 ≡ w
          → worded (judge (resolved M) (rules (mode_tables M)) n at (got t m k)) ≡ judge (tree_words M) (rules (mode_tables M)) n at (got t m k)
      go false y w a b c = simp a
      go true false w a b c = simp (a, b)
      go true true false a b c = simp (a, b, c)
      go true true true a b c = simp (a, b, c, resolved_words M n t b)

  pub decoded_words : (b : List ℕ) (k : ℕ) → worded (read_in b M n at) ≡ (reader b k (mode_tables M)).read n at
  unfolding read_in
  decoded_words b k = words_judged (tree_at b at)

-- ---- a tree that was judged by the sizes of the tables, without its entries

abbrev shown : {A : Type 0} → (Raw → A) → Reply Raw → Reply A
shown f (got t m k) = got (f t) m k
shown f (bad i) = bad i

-- how a tree is shown, and what the tables' sizes say beside row 8, changes no refusal of it
module _ {A : Type 0} (f : ℕ → Raw → A) (T T' : TableRules) (n p : ℕ) (same : (t : Raw) → T.judged n t ≡ T'.judged n t) where
  bad_shown : (z : Reply Raw) (r : ℕ) → judge (λ n t. t) T n p z ≡ bad r → judge f T' n p z ≡ bad r
  unfolding judge
  bad_shown (bad j) r e = ap (shown (f n)) e
  bad_shown (got t m k) r e = go (formed n p m) (fields t) (eqb (T.judged n t) 0) refl refl refl
    where
      go : (x y w : Bool) → formed n p m ≡ x → fields t ≡ y → eqb (T.judged n t) 0 ≡ w → judge f T' n p (got t m k) ≡ bad r
      go false y w a b c = let d : bad 2 ≡ bad r = simp a at e in simp a (ap (shown (f n)) d)
      go true false w a b c = let d : bad 2 ≡ bad r = simp (a, b) at e in simp (a, b) (ap (shown (f n)) d)
      go true true false a b c = let d : bad (T.judged n t) ≡ bad r = simp (a, b, c) at e in simp (a, b, ← same t, c) (ap (shown (f n)) d)
      go true true true a b c = let d : got t m k ≡ bad r = simp (a, b, c) at e in simp (a, b, ← same t, c) (ap (shown (f n)) d)

module _ (b : List ℕ) (N : Limits) (parts pair symbols : List ℕ) (w : Whole N parts pair symbols) (n at : ℕ) (r : Result RawAt ℕ)
    (e : r ≡ raw_answer (judge (λ n t. t) (limit_rules (limits_of N)) n at (tree_at b at))) where
  abbrev T : TableRules
  T = limit_rules (limits_of N)

  abbrev own : Mode
  own = mode_of N parts pair symbols

  same : (t : Raw) → row_eight (limits_of N) n t ≡ row_eight (limits own) n t
  same t = ap (λ (k : ℕ). row_eight (record { limit = N.limit; root = N.root; symbols = k }) n t) w.many

  pub sized_refused : (k : ℕ) → r ≡ Err k → read_in b own n at ≡ bad k
  unfolding read_in
  sized_refused k q =
      let d = reply_bad (judge (λ n t. t) T n at (tree_at b at)) r e k q in
      bad_shown (resolved own) T (rules (mode_tables own)) n at same (tree_at b at) k d

  pub sized_got : (y : RawAt) → r ≡ Ok y → read_in b own n at ≡ got (resolved own n (raw_of y.tree)) y.next y.children.0
  unfolding read_in judge
  sized_got y q =
      let z = judged_read b T n at r e y q in
      let passed = judged_passed b T n at r e y q in
      let a : formed n at y.next ≡ true = passed.form in
      let c : fields (raw_of y.tree) ≡ true = passed.fits in
      let d : row_eight (limits own) n (raw_of y.tree) ≡ 0 = sym (same (raw_of y.tree)) ∙ passed.row in
      rw z (simp (a, c, d))
