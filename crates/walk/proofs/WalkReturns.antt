-- One law for each return of the walk's functions, with premises as the code's tests and calls give them.
use Prim.Native.Nat.{ℕ, ◌+◌, ◌-◌, ◌/◌, ◌<◌, ◌≤◌}
use mathlib.Core.Bool.{Bool, true, false, not, ◌&&◌}
use mathlib.Core.Path.{◌≡◌, refl, sym, ap, ◌∙◌, subst}
use mathlib.Core.List.{List}
use native.Mathlib.Omega.{arith}
use borrow.Author.Tests.{le-leb, lt-leb, leb-true, lt-ltb, le-ltb, eq-eqb, ne_eqb, not-true, not-false}
use lib.Dec.{leb, ltb}
use lib.ListN.{length}
use Rattle.std.specs.Prelude.{Option, Some, None, Result, Ok, Err}
use Rattle.format.specs.Reader.{Reader, Reply, got, bad, none, one, refused}
use Rattle.format.specs.Walk as steps
use Rattle.format.specs.Walk.{WalkCall, advance, skip, walk_fits, walk_read, walk_step}
use Rattle.format.specs.Tree.{tree_at}
use Rattle.format.specs.Buffer.{own_reader}
use Rattle.format.specs.Tables.{rules, Mode, mode_tables, own_mode, own_limits}
use Rattle.format.proofs.Each.{and_right}
use Rattle.format.proofs.TreeBounds.{Ended, tree_ended}
use Rattle.format.proofs.Reading.{clean}
use Rattle.format.specs.Width.{part_size}
use Rattle.format.specs.Loose.{Loose, loose_at, beside}
use Rattle.tree.specs.Loose.{loose_of}
use Rattle.tree.specs.declared.loose.Loose as looses
use Rattle.tree.specs.Types.{resolved, tree_words_of}
use Rattle.tree.specs.Tables.{mode_in}
use Rattle.tree.specs.declared.tables.Tables.{Tables}
use Rattle.tree.specs.declared.refusal.Refusal.{Refusal}
use Rattle.tree.specs.declared.types.TokenTree.{TokenTree}
use Rattle.tree.specs.declared.types.TokenTree.TheVariants as trees
use Rattle.tree.specs.declared.types.Leaf.{Leaf}
use Rattle.tree.specs.declared.types.Leaf.TheVariants as leaves
use Rattle.tree.specs.declared.types.Subtree.{Subtree}
use Rattle.decode.specs.Decode.{TreeAt, read_in}
use Rattle.walk.specs.Source.{trees_sized, sizes, tree_shape, tree_reader_in, report_shape, report_reader_in}
use Rattle.walk.specs.Walk.{walk_of, answer_of, step_of, Stepped, Within, ReadAt, Begins, passed, passed_over, call_of}
use Rattle.walk.specs.declared.walk.Walk.{Walk}
use Rattle.walk.specs.declared.walk.Step.{Step}
use Rattle.walk.specs.RowOne.{Silent, Speaks}
use Rattle.walk.specs.declared.buffer.Buffer.{Buffer}
use Rattle.walk.proofs.BufferReturns.{mode_sized}
use Rattle.walk.proofs.WalkWords.{in_words, in_report, reads_decoded, walk_words, walk_report}

-- a tree that is read ends in the buffer
decoded_inside : (b : List ℕ) (M : Mode) (n at : ℕ) (y : TreeAt) → read_in b M n at ≡ got y.tree y.next y.children.0 → y.next ≤ length b
unfolding read_in
decoded_inside b M n at y e =
    let q = clean (resolved M) (rules (mode_tables M)) n at (tree_at b at) y.tree y.next y.children.0 e in
    (subst (Ended b at) q.stands (tree_ended b at)).1

-- ---- what both steps begin with

module _ (R : Reader (TokenTree × Loose)) (w : steps.Walk) (call : WalkCall) (s : R.sized ≡ true) where
  not_fitting : walk_fits report_shape R w ≡ false → (refused 10 0, w) ≡ walk_step report_shape R call w
  unfolding walk_step
  not_fitting f = simp (s, f)

  module _ (f : walk_fits report_shape R w ≡ true) where
    none_left : w.left ≡ 0 → (none, w) ≡ walk_step report_shape R call w
    unfolding walk_step
    none_left l = simp (s, f, eq-eqb _ _ l)

    some_left : (w.left ≡ 0 → ⊥) → walk_step report_shape R call w ≡ walk_read report_shape R call w (R.read w.number w.place)
    unfolding walk_step
    some_left l = simp (s, f, ne_eqb _ _ l)

read_refused : (R : Reader (TokenTree × Loose)) (w : steps.Walk) (call : WalkCall) (i : ℕ) → walk_read report_shape R call w (bad i) ≡ (refused i w.number, w)
read_refused R w advance i = refl
read_refused R w skip i = refl

module _ (b : List ℕ) (k : ℕ) (t : Tables) (w : Walk) (s : trees_sized k ≡ true) (x : Bool) (e : x ≡ (leb w.place (length b) && leb (w.number + w.left) k)) where
  abbrev M : Mode
  M = mode_in t

  abbrev R : Reader (TokenTree × Loose)
  R = report_reader_in b k M

  all_sized : R.sized ≡ true
  all_sized = mode_sized b k t s

  pub begin_10 : not x ≡ true → Begins b k M w (Err (record { number = 10; tree = 0 }))
  unfolding Begins report_reader_in tree_reader_in
  begin_10 h = λ call. not_fitting R (walk_of w) call all_sized (sym e ∙ not-true x h)

  module _ (h₁ : not x ≡ false) where
    fitting : walk_fits report_shape R (walk_of w) ≡ true
    unfolding report_reader_in tree_reader_in
    fitting = sym e ∙ not-false x h₁

    trees_within : w.number + w.left ≤ 1048576
    trees_within =
        let y = leb-true k 1048576 (and_right (leb 1 k) (leb k 1048576) s) in
        let z = leb-true (w.number + w.left) k (and_right (leb w.place (length b)) (leb (w.number + w.left) k) (sym e ∙ not-false x h₁)) in
        omega arith

    pub begin_none : w.left ≡ 0 → Begins b k M w (Ok None)
    unfolding Begins
    begin_none h = λ call. none_left R (walk_of w) call all_sized fitting h

    module _ (h₂ : w.left ≡ 0 → ⊥) where
      reads_on : (call : WalkCall) (z : Reply (TokenTree × Loose)) → beside (loose_at b w.place) (read_in b M w.number w.place) ≡ z
          → walk_step report_shape R call (walk_of w) ≡ walk_read report_shape R call (walk_of w) z
      reads_on call z q =
          some_left R (walk_of w) call all_sized fitting h₂
          ∙ ap (walk_read report_shape R call (walk_of w)) (reads_decoded b k M w.number w.place ∙ q)

      pub begin_refused : (r : Refusal) → read_in b M w.number w.place ≡ bad r.number → r.tree ≡ w.number → Begins b k M w (Err r)
      unfolding Begins
      begin_refused r d i = λ call.
          rw i (sym (reads_on call (bad r.number) (ap (beside (loose_at b w.place)) d) ∙ read_refused R (walk_of w) call r.number))

      pub begin_got : (y : TreeAt) → read_in b M w.number w.place ≡ got y.tree y.next y.children.0 → Begins b k M w (Ok (Some y))
      unfolding Begins
      begin_got y d =
          record {
            step = λ call. reads_on call (got (y.tree, loose_at b w.place) y.next y.children.0) (ap (beside (loose_at b w.place)) d);
            within = record { some = omega arith; trees = trees_within; bytes = decoded_inside b M w.number w.place y d };
          }

pub ruleset begin_cases = (begin_10, begin_none, begin_refused, begin_got)

-- ---- past a tree

pub leaf_flat : (l : Leaf) → tree_shape.is_sub (trees.Leaf l) ≡ false
unfolding tree_words_of
leaf_flat (leaves.Punct p) = refl
leaf_flat (leaves.Ident p) = refl
leaf_flat (leaves.Literal p) = refl

pub subtree_holds : (p : Subtree) → (tree_shape.is_sub (trees.Subtree p) ≡ true) × (tree_shape.count (trees.Subtree p) ≡ p.len.0)
unfolding tree_words_of
subtree_holds p = (refl, refl)

module _ (n : ℕ) (w : Walk) (y : TreeAt) (x : Loose) (s : Step) where
  pub past_leaf : (l : Leaf) → y.tree ≡ trees.Leaf l → step_of s ≡ (one (y.tree, x), record { place = y.next; number = w.number + 1; left = w.left - 1 })
      → step_of s ≡ passed n (walk_of w) y x
  unfolding passed
  past_leaf l e q = let d : tree_shape.is_sub y.tree ≡ false = ap tree_shape.is_sub e ∙ leaf_flat l in q ∙ simp d

  pub past_tree : (p : Subtree) → y.tree ≡ trees.Subtree p → step_of s ≡ passed_over n (walk_of w) y x p.len.0 → step_of s ≡ passed n (walk_of w) y x
  unfolding passed passed_over
  past_tree p e q =
      let d : tree_shape.is_sub y.tree ≡ true = ap tree_shape.is_sub e ∙ (subtree_holds p).0 in
      let c : tree_shape.count y.tree ≡ p.len.0 = ap tree_shape.count e ∙ (subtree_holds p).1 in
      q ∙ simp (d, c)

pub ruleset past_cases = (past_leaf, past_tree)

-- ---- the two steps

module _ (b : List ℕ) (M : Mode) (k : ℕ) (w : Walk) (r : Result (Option TreeAt) Refusal) (e : Begins b k M w r) where
  pub step_none : (call : WalkCall) (s : Step) → r ≡ Ok None → step_of s ≡ (none, walk_of w) → step_of s ≡ walk_step report_shape (report_reader_in b k M) call (walk_of w)
  unfolding Begins
  step_none call s q f = f ∙ subst (Begins b k M w) q e call

  pub step_refused : (call : WalkCall) (s : Step) (i : Refusal) → r ≡ Err i → step_of s ≡ (refused i.number i.tree, walk_of w)
      → step_of s ≡ walk_step report_shape (report_reader_in b k M) call (walk_of w)
  unfolding Begins
  step_refused call s i q f = f ∙ subst (Begins b k M w) q e call

  module _ (y : TreeAt) (q : r ≡ Ok (Some y)) where
    read_at_lem : ReadAt b k M w y
    unfolding Begins
    read_at_lem = subst (Begins b k M w) q e

    pub step_within : Within b w y
    step_within = read_at_lem.within

    pub step_number : w.number + 1 < 4294967296
    step_number =
        let i = step_within.some in
        let j = step_within.trees in
        omega arith

    pub step_left : 1 ≤ w.left
    step_left = let i = step_within.some in omega arith

    pub step_on : (o : Loose) → o ≡ loose_at b w.place → (x : Bool) → x ≡ false → (s : Step) → step_of s ≡ (one (y.tree, o), record { place = y.next; number = w.number + 1; left = w.left - 1 })
        → step_of s ≡ walk_step report_shape (report_reader_in b k M) (call_of x) (walk_of w)
    step_on o i x h s f =
        rw h (f ∙ ap (λ (u : Loose). (one (y.tree, u), record { place = y.next; number = w.number + 1; left = w.left - 1 })) i ∙ sym (read_at_lem.step advance))

    pub step_past : (o : Loose) → o ≡ loose_at b w.place → (x : Bool) → x ≡ true → (s : Step) → step_of s ≡ passed (length b) (walk_of w) y o → step_of s ≡ walk_step report_shape (report_reader_in b k M) (call_of x) (walk_of w)
    unfolding passed report_reader_in tree_reader_in
    step_past o i x h s f = rw h (f ∙ ap (passed (length b) (walk_of w) y) i ∙ sym (read_at_lem.step skip))

pub ruleset step_cases = (step_none, step_refused, step_within, step_number, step_left, step_on, step_past)

-- ---- document 01's mode, behind row 1

module _ (b parts symbols : List ℕ) (k : ℕ) (w : Walk) (call : WalkCall) (r : Step) where
  stepped : step_of r ≡ walk_step report_shape (report_reader_in b k (own_mode parts symbols)) call (walk_of w) → Stepped b k parts symbols call w r
  unfolding report_reader_in own_reader
  stepped q =
      record {
        exact = q;
        words = ap in_words q ∙ walk_words b k (own_mode parts symbols) call (walk_of w);
        reports = ap in_report q ∙ walk_report b k (own_mode parts symbols) call (walk_of w);
      }

  pub front_1 : (i : Refusal) → Speaks k parts symbols i → step_of r ≡ (refused i.number i.tree, walk_of w) → Stepped b k parts symbols call w r
  unfolding walk_step report_reader_in tree_reader_in
  front_1 i z q = let f : sizes k parts symbols ≡ false = z.sizes in let g = z.refusal in stepped (q ∙ rw g (simp f))

  pub front_step : (B : Buffer) → Silent b k parts symbols B → step_of r ≡ walk_step report_shape (report_reader_in B.bytes.now B.trees (mode_in B.tables)) call (walk_of w)
      → Stepped b k parts symbols call w r
  front_step B z q = stepped (q ∙ (λ i. walk_step report_shape (report_reader_in (z.bytes i) (z.trees i) (z.mode i)) call (walk_of w)))
