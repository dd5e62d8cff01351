-- One law for each return of the calls that look, with premises as the code's tests and calls give them.
use Prim.Native.Nat.{ℕ, zero, suc, ◌+◌, ◌/◌, ◌<◌}
use mathlib.Core.Bool.{Bool, true, false, not}
use mathlib.Core.Path.{◌≡◌, refl, sym, ap, ◌∙◌, subst}
use mathlib.Core.List.{List, [], ◌∷◌}
use native.Mathlib.Omega.{arith}
use native.Mathlib.Nat.{add-zero}
use borrow.Author.Tests.{not-true, not-false, ltb-true}
use lib.Dec.{ltb}
use lib.ListN.{length, get_or}
use Rattle.std.specs.Prelude.{Option, Some, None, Result, Ok, Err}
use Rattle.format.specs.Width.{part_size}
use Rattle.format.specs.Tables.{Mode, own_limits, own_mode}
use Rattle.format.specs.Buffer.{own_reader}
use Rattle.format.specs.Reader.{Reader, Reply, got, bad, none, one, two, refused}
use Rattle.format.specs.Cursor.{CursorCall, token_tree, peek_two_leaves, within, tree_here, second_leaf, first_leaf, cursor_call, cursor_step}
use Rattle.format.proofs.Each.{and_left}
use Rattle.format.specs.Loose.{Loose, loose_at, beside}
use Rattle.tree.specs.Loose.{loose_of}
use Rattle.tree.specs.declared.loose.Loose as looses
use Rattle.tree.specs.declared.types.TokenTree.{TokenTree}
use Rattle.tree.specs.declared.types.TokenTree.TheVariants as trees
use Rattle.tree.specs.declared.types.Leaf.{Leaf}
use Rattle.tree.specs.declared.types.Subtree.{Subtree}
use Rattle.tree.specs.Tables.{mode_in}
use Rattle.tree.specs.declared.refusal.Refusal.{Refusal}
use Rattle.tree.specs.declared.tables.Tables.{Tables}
use Rattle.decode.specs.Decode.{TreeAt, read_in}
use Rattle.walk.specs.Source.{trees_sized, sizes, tree_shape, tree_reader_in, report_shape, report_reader_in, answer_words, answer_report}
use Rattle.walk.specs.RowOne.{Silent, Speaks}
use Rattle.walk.specs.declared.buffer.Buffer.{Buffer}
use Rattle.walk.proofs.BufferReturns.{mode_sized}
use Rattle.walk.proofs.WalkWords.{reads_decoded}
use Rattle.walk.proofs.WalkReturns.{leaf_flat, subtree_holds}
use Rattle.cursor.specs.Open.{opened, cursor_of, agreed, inside}
use Rattle.cursor.specs.Plan.{answer_of}
use Rattle.cursor.specs.Moves.{at_of}
use Rattle.cursor.specs.Look.{Tells, TellsIn, Here, ahead_of, peek_of, Peeks, PeeksIn, Second, First}
use Rattle.cursor.specs.declared.state.At.{At}
use Rattle.cursor.specs.declared.plan.Reply as plan
use Rattle.cursor.specs.declared.plan.Reply.TheVariants as replies
use Rattle.cursor.specs.declared.look.Ahead.{Ahead}
use Rattle.cursor.specs.declared.cursor.Cursor as value
use Rattle.cursor.proofs.CursorWords.{cursor_words, cursor_report}
use Rattle.cursor.proofs.PlanReturns.{fit_stops, fit_calls, sizes_stop, plan_few}

-- ---- what is read

module _ (b : List ℕ) (M : Mode) (n p : ℕ) where
  read_bad : (i : ℕ) → read_in b M n p ≡ bad i → (k : ℕ) → (report_reader_in b k M).read n p ≡ bad i
  read_bad i d k = reads_decoded b k M n p ∙ ap (beside (loose_at b p)) d

  read_got : (y : TreeAt) → read_in b M n p ≡ got y.tree y.next y.children.0 → (k : ℕ) → (report_reader_in b k M).read n p ≡ got (y.tree, loose_at b p) y.next y.children.0
  read_got y d k = reads_decoded b k M n p ∙ ap (beside (loose_at b p)) d

within_inside : (k n : ℕ) (ns cs ps : List ℕ) (d : ℕ) → within k (opened ns cs ps d) n ≡ inside k n ns cs d
unfolding opened inside
within_inside k n ns cs ps zero = refl
within_inside k n ns cs ps (suc d) = refl

pub inside_below : (k n : ℕ) (ns cs : List ℕ) (d : ℕ) → inside k n ns cs d ≡ true → n < k
unfolding inside
inside_below k n ns cs zero i = ltb-true n k i
inside_below k n ns cs (suc d) i = ltb-true n k (and_left (ltb n k) (ltb n (get_or ns d 0 + 1 + get_or cs d 0)) i)

-- ---- one tree

module _ (b : List ℕ) (M : Mode) (c : At) where
  pub here_refused : (r : Refusal) → (read_in b M c.number c.place ≡ bad r.number) × (r.tree ≡ c.number) → Here b M c (Err r)
  unfolding answer_of
  here_refused r d = record { step = λ k. ap (refused r.number) d.1 ∙ sym (ap (tree_here report_shape (report_reader_in b k M) c.number) (read_bad b M c.number c.place r.number d.0 k)) }

  pub here_got : (y : TreeAt) → read_in b M c.number c.place ≡ got y.tree y.next y.children.0 → (o : looses.Loose) → loose_of o ≡ loose_at b c.place
      → Here b M c (Ok (replies.Tree (record { tree = y.tree; loose = o })))
  unfolding answer_of
  here_got y d o i = record { step = λ k. ap (λ (u : Loose). one (y.tree, u)) i ∙ sym (ap (tree_here report_shape (report_reader_in b k M) c.number) (read_got b M c.number c.place y d k)) }

-- ---- two leaves

leaf_is : (y : TreeAt) (l : Leaf) → y.tree ≡ trees.Leaf l → tree_shape.is_sub y.tree ≡ false
leaf_is y l e = ap tree_shape.is_sub e ∙ leaf_flat l

subtree_is : (y : TreeAt) (p : Subtree) → y.tree ≡ trees.Subtree p → tree_shape.is_sub y.tree ≡ true
subtree_is y p e = ap tree_shape.is_sub e ∙ (subtree_holds p).0

module _ (b : List ℕ) (M : Mode) (n p : ℕ) (near : Ahead) where
  second_from : (t : Result (Option (List Ahead)) Refusal) (z : Reply (TokenTree × Loose)) → ((k : ℕ) → (report_reader_in b k M).read (n + 1) p ≡ z)
      → ((k : ℕ) → peek_of t ≡ second_leaf report_shape (report_reader_in b k M) n (ahead_of near) z) → Second b M n p near t
  second_from t z g q = record { step = λ k. q k ∙ sym (ap (second_leaf report_shape (report_reader_in b k M) n (ahead_of near)) (g k)) }

  pub second_refused : (r : Refusal) → (read_in b M (n + 1) p ≡ bad r.number) × (r.tree ≡ n + 1) → Second b M n p near (Err r)
  unfolding peek_of
  second_refused r d = second_from (Err r) (bad r.number) (read_bad b M (n + 1) p r.number d.0) (λ k. ap (refused r.number) d.1)

  module _ (y : TreeAt) (g : read_in b M (n + 1) p ≡ got y.tree y.next y.children.0) where
    pub second_subtree : (s : Subtree) → y.tree ≡ trees.Subtree s → Second b M n p near (Ok None)
    unfolding peek_of
    second_subtree s e =
        let d = subtree_is y s e in
        second_from (Ok None) (got (y.tree, loose_at b p) y.next y.children.0) (read_got b M (n + 1) p y g) (λ k. simp d)

    pub second_found : (far : Leaf) (o : looses.Loose) → loose_of o ≡ loose_at b p → y.tree ≡ trees.Leaf far
        → Second b M n p near (Ok (Some (near ∷ record { leaf = far; loose = o } ∷ [])))
    unfolding peek_of
    second_found far o i e =
        let d = leaf_is y far e in
        second_from (Ok (Some (near ∷ record { leaf = far; loose = o } ∷ [])))
        (got (y.tree, loose_at b p) y.next y.children.0) (read_got b M (n + 1) p y g)
        (λ k. ap (λ (u : Loose). two (ahead_of near) (trees.Leaf far, u)) i ∙ rw (← e) (simp d))

pub ruleset second_cases = (second_subtree, second_found)

module _ (b : List ℕ) (M : Mode) (c : At) where
  first_from : (t : Result (Option (List Ahead)) Refusal) (z : Reply (TokenTree × Loose)) → ((k : ℕ) → (report_reader_in b k M).read c.number c.place ≡ z)
      → ((k : ℕ) → peek_of t ≡ first_leaf report_shape (report_reader_in b k M) c.number z) → First b M c t
  first_from t z g q = record { step = λ k. q k ∙ sym (ap (first_leaf report_shape (report_reader_in b k M) c.number) (g k)) }

  pub first_refused : (r : Refusal) → (read_in b M c.number c.place ≡ bad r.number) × (r.tree ≡ c.number) → First b M c (Err r)
  unfolding peek_of
  first_refused r d = first_from (Err r) (bad r.number) (read_bad b M c.number c.place r.number d.0) (λ k. ap (refused r.number) d.1)

  module _ (y : TreeAt) (g : read_in b M c.number c.place ≡ got y.tree y.next y.children.0) where
    pub first_subtree : (s : Subtree) → y.tree ≡ trees.Subtree s → First b M c (Ok None)
    unfolding peek_of
    first_subtree s e =
        let d = subtree_is y s e in
        first_from (Ok None) (got (y.tree, loose_at b c.place) y.next y.children.0) (read_got b M c.number c.place y g) (λ k. simp d)

    pub first_leaf_lem : (near : Leaf) (o : looses.Loose) (t : Result (Option (List Ahead)) Refusal) → loose_of o ≡ loose_at b c.place → y.tree ≡ trees.Leaf near
        → Second b M c.number y.next (record { leaf = near; loose = o }) t → First b M c t
    first_leaf_lem near o t i e s =
        let d = leaf_is y near e in
        first_from t (got (y.tree, loose_at b c.place) y.next y.children.0) (read_got b M c.number c.place y g)
        (λ k. s.step k ∙ ap (λ (u : Loose). second_leaf report_shape (report_reader_in b k M) c.number (trees.Leaf near, u) ((report_reader_in b k M).read (c.number + 1) y.next)) i ∙ rw (← e) (simp d))

pub ruleset first_cases = (first_subtree, first_leaf_lem)

-- a call behind row 10
module _ (b : List ℕ) (T : Tables) (k : ℕ) (s : trees_sized k ≡ true) (c : At) (ns cs ps : List ℕ) where
  abbrev own : Mode
  own = mode_in T

  abbrev R : Reader (TokenTree × Loose)
  R = report_reader_in b k own

  module _ (h : agreed k (length b) (cursor_of c ns cs ps) ≡ false) where
    stops : (call : CursorCall) → refused 10 0 ≡ (cursor_step report_shape R call (cursor_of c ns cs ps)).0
    unfolding report_reader_in tree_reader_in
    stops call = ap (λ x. x.0) (fit_stops R (mode_sized b k T s) (cursor_of c ns cs ps) call h)

    pub tells_10 : TellsIn b k own c ns cs ps (Err (record { number = 10; tree = 0 }))
    unfolding answer_of
    tells_10 = record { exact = stops token_tree }

    pub peeks_10 : PeeksIn b k own c ns cs ps (Err (record { number = 10; tree = 0 }))
    unfolding peek_of
    peeks_10 = record { exact = stops peek_two_leaves }

  module _ (h : agreed k (length b) (cursor_of c ns cs ps) ≡ true) where
    calls : (call : CursorCall) → (cursor_step report_shape R call (cursor_of c ns cs ps)).0 ≡ (cursor_call report_shape R call (cursor_of c ns cs ps)).0
    unfolding report_reader_in tree_reader_in
    calls call = ap (λ x. x.0) (fit_calls R (mode_sized b k T s) (cursor_of c ns cs ps) call h)

    -- ---- one tree

    is_within_lem : within R.trees (opened ns cs ps c.depth) c.number ≡ inside k (c.number + 0) ns cs c.depth
    unfolding report_reader_in tree_reader_in
    is_within_lem = within_inside k c.number ns cs ps c.depth ∙ ap (λ (n : ℕ). inside k n ns cs c.depth) (sym (add-zero c.number))

    pub tells_none : inside k (c.number + 0) ns cs c.depth ≡ false → TellsIn b k own c ns cs ps (Ok replies.None)
    unfolding answer_of
    tells_none g =
        let w = is_within_lem ∙ g in
        record { exact = sym (calls token_tree ∙ simp w) }

    pub tells_here : inside k (c.number + 0) ns cs c.depth ≡ true → (a : Result plan.Reply Refusal) → Here b own c a → TellsIn b k own c ns cs ps a
    tells_here g a q =
        let w = is_within_lem ∙ g in
        record { exact = q.step k ∙ sym (calls token_tree ∙ simp w) }

    -- ---- two leaves

    both_within : within R.trees (opened ns cs ps c.depth) (c.number + 1) ≡ inside k (c.number + 1) ns cs c.depth
    unfolding report_reader_in tree_reader_in
    both_within = within_inside k (c.number + 1) ns cs ps c.depth

    pub peeks_none : inside k (c.number + 1) ns cs c.depth ≡ false → PeeksIn b k own c ns cs ps (Ok None)
    unfolding peek_of
    peeks_none g =
        let v = both_within ∙ g in
        record { exact = sym (calls peek_two_leaves ∙ simp v) }

    pub peeks_first : inside k (c.number + 1) ns cs c.depth ≡ true → (t : Result (Option (List Ahead)) Refusal) → First b own c t → PeeksIn b k own c ns cs ps t
    peeks_first g t q =
        let v = both_within ∙ g in
        record { exact = q.step k ∙ sym (calls peek_two_leaves ∙ simp v) }

pub ruleset tells_cases = (plan_few, tells_10, tells_none, tells_here)

pub ruleset peeks_cases = (plan_few, peeks_10, peeks_none, inside_below, peeks_first)

-- ---- document 01's mode, behind row 1

module _ (b parts symbols : List ℕ) (k : ℕ) (c : At) (ns cs ps : List ℕ) where
  abbrev own' : Mode
  own' = own_mode parts symbols

  tells : (a : Result plan.Reply Refusal) → answer_of a ≡ (cursor_step report_shape (report_reader_in b k own') token_tree (cursor_of c ns cs ps)).0 → Tells b k parts symbols c ns cs ps a
  unfolding report_reader_in own_reader
  tells a q =
      record {
        exact = q;
        words = ap answer_words q ∙ ap (λ x. x.0) (cursor_words b k own' token_tree (cursor_of c ns cs ps));
        reports = ap answer_report q ∙ ap (λ x. x.0) (cursor_report b k own' token_tree (cursor_of c ns cs ps));
      }

  peeks : (t : Result (Option (List Ahead)) Refusal) → peek_of t ≡ (cursor_step report_shape (report_reader_in b k own') peek_two_leaves (cursor_of c ns cs ps)).0 → Peeks b k parts symbols c ns cs ps t
  unfolding report_reader_in own_reader
  peeks t q =
      record {
        exact = q;
        words = ap answer_words q ∙ ap (λ x. x.0) (cursor_words b k own' peek_two_leaves (cursor_of c ns cs ps));
        reports = ap answer_report q ∙ ap (λ x. x.0) (cursor_report b k own' peek_two_leaves (cursor_of c ns cs ps));
      }

  module _ (r : Refusal) (z : Speaks k parts symbols r) where
    stop : (call : CursorCall) → refused r.number r.tree ≡ (cursor_step report_shape (report_reader_in b k own') call (cursor_of c ns cs ps)).0
    stop call =
        ap (λ (i : Refusal). refused i.number i.tree) z.refusal
        ∙ ap (λ x. x.0) (sizes_stop b k parts symbols z.sizes call (cursor_of c ns cs ps))

    pub tells_1 : Tells b k parts symbols c ns cs ps (Err r)
    unfolding answer_of
    tells_1 = tells (Err r) (stop token_tree)

    pub peeks_1 : Peeks b k parts symbols c ns cs ps (Err r)
    unfolding peek_of
    peeks_1 = peeks (Err r) (stop peek_two_leaves)

  module _ (B : Buffer) (z : Silent b k parts symbols B) where
    pub tells_front : (a : Result plan.Reply Refusal) → TellsIn B.bytes.now B.trees (mode_in B.tables) c ns cs ps a → Tells b k parts symbols c ns cs ps a
    tells_front a q = tells a (q.exact ∙ (λ i. (cursor_step report_shape (report_reader_in (z.bytes i) (z.trees i) (z.mode i)) token_tree (cursor_of c ns cs ps)).0))

    pub peeks_front : (t : Result (Option (List Ahead)) Refusal) → PeeksIn B.bytes.now B.trees (mode_in B.tables) c ns cs ps t → Peeks b k parts symbols c ns cs ps t
    peeks_front t q = peeks t (q.exact ∙ (λ i. (cursor_step report_shape (report_reader_in (z.bytes i) (z.trees i) (z.mode i)) peek_two_leaves (cursor_of c ns cs ps)).0))

-- ---- a cursor by value, whose state was handed on

module _ (b parts symbols : List ℕ) (k : ℕ) (c : value.Cursor) (a : At) (q : a ≡ at_of c) where
  pub value_tells : (r : Result plan.Reply Refusal) → Tells b k parts symbols a c.numbers c.counts c.places r → Tells b k parts symbols (at_of c) c.numbers c.counts c.places r
  value_tells r e = subst (λ (x : At). Tells b k parts symbols x c.numbers c.counts c.places r) q e

  pub value_peeks : (r : Result (Option (List Ahead)) Refusal) → Peeks b k parts symbols a c.numbers c.counts c.places r → Peeks b k parts symbols (at_of c) c.numbers c.counts c.places r
  value_peeks r e = subst (λ (x : At). Peeks b k parts symbols x c.numbers c.counts c.places r) q e

pub ruleset value_looks = (value_tells, value_peeks)
