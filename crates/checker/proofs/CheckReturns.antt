-- One law for each return, call and turn of a loop of the check, over any reader.
use Prim.Native.Nat.{ℕ, ◌+◌, ◌-◌, ◌/◌, ◌%◌, ◌≤◌, ◌<◌}
use mathlib.Core.Bool.{Bool, true, false, not, ◌&&◌}
use mathlib.Core.Path.{◌≡◌, refl, sym, ap, ◌∙◌, subst}
use mathlib.Core.List.{List}
use native.Mathlib.Omega.{arith}
use borrow.Author.Tests.{ne_eqb, leb-true, not-true, not-false}
use lib.Dec.{leb}
use lib.ListN.{length}
use Rattle.std.specs.Prelude.{Result, Ok, Err, ⊤}
use Rattle.format.specs.Verdict.{Verdict, refused}
use Rattle.format.specs.Reader.{Shape, Reader}
use Rattle.format.specs.Nest.{nest}
use Rattle.format.proofs.NestRun.{run}
use Rattle.format.specs.Check.{place_of, reading, listing, read_rule, check}
use Rattle.format.specs.Width.{part_size}
use Rattle.format.specs.Tables.{TableRules, row_eight, tables_sized, own_limits, count_rules}
use Rattle.format.specs.Buffer.{raw_shape, raw_reader, size_reader, word_shape, own_reader, buffer_check}
use Rattle.format.proofs.Each.{and_left, and_right}
use Rattle.format.proofs.Sight.{sight}
use Rattle.checker.specs.Descent.{LeafAt, SubtreeAt, Upto, Unnests, ReadTo, after_sizes}
use Rattle.checker.proofs.Seen.{seen_leaf, seen_subtree, seen_unread}
use Rattle.checker.proofs.Descent.{upto_start, upto_more, upto_unread, upto_unnests, upto_leaf, upto_bad, sub_three, sub_four, sub_unread, sub_unnests, sub_honest, sub_wrong, nest_run, nest_flat, nest_short, read_start, read_on, read_bad, read_end, all_unread, left_over, all_unnested, through_left, through_wrong, through_passed, check_unsized, check_sized}
use Rattle.format.proofs.RawReader.{own_check}
use Rattle.tree.specs.Mode.{limits_of}
use Rattle.tree.specs.declared.limits.Limits.{Limits}
use Rattle.decode.specs.Judge.{limit_rules}
use Rattle.tree.specs.Refusal.{verdict_answer}
use Rattle.checker.specs.Glance.{glance, next_of, reader_of}
use Rattle.checker.specs.Says.{is_sized, earlier, Goes, Stops, RunSays, RootSays, RootStops, Ends}
use Rattle.checker.specs.declared.glance.Opening.{Opening}
use Rattle.checker.specs.declared.glance.Glance.{Glance}
use Rattle.checker.specs.declared.glance.Glance.TheVariants.{Leaf, Subtree}
use Rattle.checker.specs.declared.check.Ran.{Ran}
use Rattle.checker.specs.declared.check.Stop.{Stop}
use Rattle.checker.specs.declared.check.Stop.TheVariants.{Unread, Unnested}
use Rattle.checker.proofs.GlanceReturns.{leaf_seen, sub_seen_lem, bad_seen}
use Rattle.tree.specs.declared.refusal.Refusal.{Refusal}

-- ---- check_run

-- a shape whose blank is no subtree
abbrev pub Flat : {Tree : Type 0} → Shape Tree → Type 0
Flat S = S.is_sub S.blank ≡ false

module _ {Tree : Type 0} (S : Shape Tree) (R : Reader Tree) (flat : Flat S) (n at : ℕ) (p : at ≡ place_of S R n) (g : Result Glance ℕ) (e : g ≡ glance (sight S (R.read n at))) where
  seen : g ≡ glance (sight S (reading S R n))
  seen = e ∙ ap (λ x. glance (sight S (R.read n x))) p

  see_leaf : (x : Glance) (next : ℕ) → g ≡ Ok x → x ≡ Leaf next → LeafAt S R n next
  see_leaf x next q l = seen_leaf S R flat n next (leaf_seen (sight S (reading S R n)) next (sym seen ∙ q ∙ ap Ok l))

  see_sub : (x : Glance) (o : Opening) → g ≡ Ok x → x ≡ Subtree o → SubtreeAt S R n o.count.0 o.kids.0 o.next
  see_sub x o q l = seen_subtree S R flat n o.count.0 o.kids.0 o.next (sub_seen_lem (sight S (reading S R n)) o (sym seen ∙ q ∙ ap Ok l))

  see_bad : (r : ℕ) → g ≡ Err r → read_rule S R n ≡ refused r n
  see_bad r q = seen_unread S R flat n r (bad_seen (sight S (reading S R n)) r (sym seen ∙ q))

module _ {Tree : Type 0} (S : Shape Tree) (R : Reader Tree) where
  pub run_start : (n end depth at : ℕ) → n ≤ end → at ≡ place_of S R n → Upto S R (run S (listing S R) n end depth) n end depth n at R.trees
  run_start = upto_start S R

  module _ (v : Verdict) (n end depth m at w : ℕ) (u : Upto S R v n end depth m at w) where
    pub run_end : end ≤ m → Goes S R v n end depth end (Ok (record { tree = end; at = at; wrong = w }))
    unfolding Goes
    run_end h =
        let i = u.inside in
        let e : m ≡ end = omega arith in
        (refl, subst (λ (x : ℕ). Upto S R v n end depth x at w) e u)

    module _ (flat : Flat S) (h : m < end) (g : Result Glance ℕ) (e : g ≡ glance (sight S (R.read m at))) where
      pub run_bad : (r : ℕ) → g ≡ Err r → Goes S R v n end depth end (Err (Unread (record { number = r; tree = m })))
      unfolding Goes Stops
      run_bad r q = upto_bad S R v n end depth m at w u r h (see_bad S R flat m at u.place g e r q)

      pub run_leaf : (x : Glance) (next : ℕ) → g ≡ Ok x → x ≡ Leaf next → Upto S R v n end depth (m + 1) next w
      run_leaf x next q l = upto_leaf S R v n end depth m at w u next h (see_leaf S R flat m at u.place g e x next q l)

    module _ (last : ℕ) (a : Result Ran Stop) (q : RunSays S R m end depth last a) where
      pub run_more : (y : Ran) (x : ℕ) → a ≡ Ok y → x ≡ earlier R.trees w y.wrong → Upto S R v n end depth y.tree y.at x
      unfolding Goes
      run_more y x e f =
          let q' = subst (λ (y : Result Ran Stop). RunSays S R m end depth last y) e q in
          subst (λ (x : ℕ). Upto S R v n end depth y.tree y.at x) (sym f) (upto_more S R v n end depth m at w u y.tree y.at y.wrong q'.1)

      pub run_stopped : (s : Stop) → a ≡ Err s → (z : Result Ran Stop) → z ≡ Err s → Goes S R v n end depth end z
      unfolding Goes Stops
      run_stopped s e z f = subst (λ (y : Result Ran Stop). Goes S R v n end depth end y) (sym f) (go s (subst (λ (y : Result Ran Stop). RunSays S R m end depth last y) e q))
        where
          go : (s : Stop) → Stops S R (run S (listing S R) m end depth) m end s → Stops S R v n end s
          go (Unread f) q' = upto_unread S R v n end depth m at w u f.number f.tree q'
          go (Unnested f x) q' = upto_unnests S R v n end depth m at w u f.number f.tree x q'

  -- how far a subtree brings the run
  pub run_less : (v : Verdict) (n end depth last : ℕ) (a : Result Ran Stop) → Goes S R v n end depth last a → (y : Ran) → a ≡ Ok y → y.tree ≡ last
  unfolding Goes
  run_less v n end depth last a q y e = (subst (λ (y : Result Ran Stop). Goes S R v n end depth last y) e q).0

  pub run_falls : (v : Verdict) (n end depth count : ℕ) (a : Result Ran Stop) → Goes S R v n end depth (n + 1 + count) a → (y : Ran) → a ≡ Ok y → n < end → end - y.tree < end - n
  run_falls v n end depth count a q y e h = let f = run_less v n end depth (n + 1 + count) a q y e in omega arith

pub same_glance : (g h : Result Glance ℕ) (x : Glance) (o : Opening) → g ≡ h → g ≡ Ok x → x ≡ Subtree o → Ok (Subtree o) ≡ h
same_glance g h x o p q l = sym (q ∙ ap Ok l) ∙ p

-- ---- check_subtree

module _ {Tree : Type 0} (S : Shape Tree) (R : Reader Tree) (flat : Flat S) (n end depth at : ℕ) (o : Opening) (h : n < end) (p : at ≡ place_of S R n) (e : Ok (Subtree o) ≡ glance (sight S (R.read n at))) where
  here : SubtreeAt S R n o.count.0 o.kids.0 o.next
  here = see_sub S R flat n at p (Ok (Subtree o)) e (Subtree o) o refl refl

  -- what is to be said of the subtree, and what is said of its descendants
  abbrev pub Whole : Result Ran Stop → Type 0
  Whole = RunSays S R n end depth (n + 1 + o.count.0)

  abbrev pub Below : Result Ran Stop → Type 0
  Below = RunSays S R (n + 1) (n + 1 + o.count.0) (depth - 1) (n + 1 + o.count.0)

  pub tree_three : end - n - 1 < o.count.0 → Whole (Err (Unnested (record { number = 3; tree = n }) at))
  unfolding Goes Stops
  tree_three g = sub_three S R n end depth at o.count.0 o.kids.0 o.next here h p g

  module _ (g : o.count.0 ≤ end - n - 1) where
    pub tree_four : depth ≡ 0 → Whole (Err (Unnested (record { number = 4; tree = n }) at))
    unfolding Goes Stops
    tree_four z = sub_four S R n end depth at o.count.0 o.kids.0 o.next here h p g z

    module _ (z : depth ≡ 0 → ⊥) (a : Result Ran Stop) (q : Below a) where
      pub tree_stopped : (s : Stop) → a ≡ Err s → Whole (Err s)
      unfolding Goes Stops
      tree_stopped s f = go s (subst Below f q)
        where
          go : (s : Stop) → Below (Err s) → Whole (Err s)
          go (Unread f) q' = sub_unread S R n end depth at o.count.0 o.kids.0 o.next here h p g f.number f.tree q'
          go (Unnested f x) q' = sub_unnests S R n end depth at o.count.0 o.kids.0 o.next here h p g f.number f.tree x z q'

      module _ (y : Ran) (f : a ≡ Ok y) where
        arrived : y.tree ≡ n + 1 + o.count.0
        arrived = run_less S R _ _ _ _ _ a q y f

        gone : Upto S R (run S (listing S R) (n + 1) (n + 1 + o.count.0) (depth - 1)) (n + 1) (n + 1 + o.count.0) (depth - 1) (n + 1 + o.count.0) y.at y.wrong
        unfolding Goes
        gone = subst (λ (x : ℕ). Upto S R (run S (listing S R) (n + 1) (n + 1 + o.count.0) (depth - 1)) (n + 1) (n + 1 + o.count.0) (depth - 1) x y.at y.wrong) arrived (subst Below f q).1

        ends_at : (x : ℕ) → Upto S R (run S (listing S R) n end depth) n end depth (n + 1 + o.count.0) y.at x → Whole (Ok (record { tree = y.tree; at = y.at; wrong = x }))
        unfolding Goes
        ends_at x u = (arrived, subst (λ (m : ℕ). Upto S R (run S (listing S R) n end depth) n end depth m y.at x) (sym arrived) u)

        wrong : end ≤ R.trees → (o.next + o.kids.0 ≡ y.at → ⊥) → Whole (Ok (record { tree = y.tree; at = y.at; wrong = n }))
        wrong l d = ends_at n (sub_wrong S R n end depth at o.count.0 o.kids.0 o.next here h p g z y.at y.wrong gone (omega arith) d)

        pub tree_back : end ≤ R.trees → y.at < o.next → Whole (Ok (record { tree = y.tree; at = y.at; wrong = n }))
        tree_back l d = wrong l (λ i. omega arith)

        module _ (d : o.next ≤ y.at) (x : ℕ) (k : x ≡ o.kids.0) where
          pub tree_wrong : end ≤ R.trees → (y.at - o.next ≡ x → ⊥) → Whole (Ok (record { tree = y.tree; at = y.at; wrong = n }))
          tree_wrong l i = wrong l (λ j. i (omega arith))

          pub tree_right : y.at - o.next ≡ x → Whole (Ok y)
          tree_right i = ends_at y.wrong (sub_honest S R n end depth at o.count.0 o.kids.0 o.next here h p g z y.at y.wrong gone (omega arith))

pub kids_place : {Tree : Type 0} (S : Shape Tree) (R : Reader Tree) → Flat S → (n at : ℕ) (o : Opening) → at ≡ place_of S R n → Ok (Subtree o) ≡ glance (sight S (R.read n at)) → o.next ≡ place_of S R (n + 1)
kids_place S R flat n at o p e = (see_sub S R flat n at p (Ok (Subtree o)) e (Subtree o) o refl refl).place

pub ruleset run_cases = (run_start, run_end, run_bad, run_leaf, run_more, run_stopped, run_falls, same_glance, tree_three, tree_four, tree_stopped, tree_back, tree_wrong, tree_right, kids_place)

-- ---- read_on

module _ {Tree : Type 0} (S : Shape Tree) (R : Reader Tree) where
  pub on_start : (n at : ℕ) → n ≤ R.trees → at ≡ place_of S R n → ReadTo S R n n at
  on_start = read_start S R

  module _ (n m at : ℕ) (u : ReadTo S R n m at) where
    pub on_end : R.trees ≤ m → Ends S R n (Ok at)
    unfolding Ends
    on_end h = read_end S R n m at u h

    module _ (flat : Flat S) (h : m < R.trees) (g : Result Glance ℕ) (e : g ≡ glance (sight S (R.read m at))) where
      pub on_bad : (r : ℕ) → g ≡ Err r → Ends S R n (Err (record { number = r; tree = m }))
      unfolding Ends
      on_bad r q = read_bad S R n m at u r h (see_bad S R flat m at u.place g e r q)

      pub on_next : (x : Glance) → g ≡ Ok x → (next : ℕ) → next ≡ next_of x → ReadTo S R n (m + 1) next
      on_next (Leaf y) q next k =
          let l = see_leaf S R flat m at u.place g e (Leaf y) y q refl in
          read_on S R n m at u next h l.readable (k ∙ l.place)
      on_next (Subtree o) q next k =
          let l = see_sub S R flat m at u.place g e (Subtree o) o q refl in
          read_on S R n m at u next h l.readable (k ∙ l.place)

pub ruleset read_cases = (on_start, on_end, on_bad, on_next)

-- ---- check_root

pub root_place : {Tree : Type 0} (S : Shape Tree) (R : Reader Tree) → 0 ≡ place_of S R 0
unfolding place_of
root_place S R = refl

module _ {Tree : Type 0} (S : Shape Tree) (R : Reader Tree) (flat : Flat S) (h : 1 ≤ R.trees) (g : Result Glance ℕ) (e : g ≡ glance (sight S (R.read 0 0))) where
  pub root_bad : (r : ℕ) → g ≡ Err r → RootSays S R (Err (Unread (record { number = r; tree = 0 })))
  unfolding Goes Stops
  root_bad r q = read_bad S R 0 0 0 (read_start S R 0 0 (omega arith) (root_place S R)) r (omega arith) (see_bad S R flat 0 0 (root_place S R) g e r q)

  pub root_leaf : (x : Glance) (next : ℕ) → g ≡ Ok x → x ≡ Leaf next → RootSays S R (Err (Unnested (record { number = 3; tree = 0 }) 0))
  unfolding Goes Stops
  root_leaf x next q k =
      let l = see_leaf S R flat 0 0 (root_place S R) g e x next q k in
      record { inside = omega arith; place = root_place S R; reads = refl; nests = nest_flat S R l.flat }

  module _ (x : Glance) (o : Opening) (q : g ≡ Ok x) (l : x ≡ Subtree o) where
    root : SubtreeAt S R 0 o.count.0 o.kids.0 o.next
    root = see_sub S R flat 0 0 (root_place S R) g e x o q l

    pub root_short : (o.count.0 ≡ R.trees - 1 → ⊥) → RootSays S R (Err (Unnested (record { number = 3; tree = 0 }) 0))
    unfolding Goes Stops
    root_short d =
        let f = root.ends in
        record { inside = omega arith; place = root_place S R; reads = refl; nests = nest_short S R (λ i. d (omega arith)) }

    pub root_sub : (a : Result Ran Stop) → o.count.0 ≡ R.trees - 1 → RunSays S R 0 R.trees 256 (0 + 1 + o.count.0) a
        → RootSays S R a
    root_sub a d t =
        let f = root.ends in
        let m : 0 + 1 + o.count.0 ≡ R.trees = omega arith in
        let v = nest_run S R root.holds (f ∙ m) in
        subst (λ (k : Verdict). Goes S R k 0 R.trees 256 R.trees a) (sym v) (subst (λ (k : ℕ). RunSays S R 0 R.trees 256 k a) m t)

pub ruleset root_cases = (root_bad, root_leaf, root_short, root_sub, root_place, same_glance)

-- ---- finish

abbrev Says : Result ⊤ Refusal → Verdict → Type 0
Says a v = a ≡ verdict_answer v

module _ {Tree : Type 0} (S : Shape Tree) (R : Reader Tree) where
  module _ (y : Ran) (g : RootSays S R (Ok y)) where
    all : Upto S R (nest S (listing S R)) 0 R.trees 256 R.trees y.at y.wrong
    unfolding Goes
    all = subst (λ (x : ℕ). Upto S R (nest S (listing S R)) 0 R.trees 256 x y.at y.wrong) g.0 g.1

    pub done_left : (k : ℕ) (z : Result ⊤ Refusal) → Says z (refused 9 k) → k ≡ R.trees → (y.at ≡ R.bytes → ⊥) → Says z (after_sizes S R)
    done_left k z q c d = q ∙ ap verdict_answer (ap (λ x. refused 9 x) c ∙ through_left S R 256 y.at y.wrong all d)

    pub done_wrong : (z : Result ⊤ Refusal) → Says z (refused 9 y.wrong) → y.at ≡ R.bytes → y.wrong < R.trees → Says z (after_sizes S R)
    done_wrong z q d h = q ∙ ap verdict_answer (through_wrong S R 256 y.at y.wrong all d h)

    pub done_passed : y.at ≡ R.bytes → R.trees ≤ y.wrong → Says (Ok tt) (after_sizes S R)
    unfolding verdict_answer
    done_passed d h = ap verdict_answer (through_passed S R 256 y.at y.wrong all d h)

  module _ (a : Result Ran Stop) (g : RootSays S R a) where
    pub done_ran : (y : Ran) → a ≡ Ok y → RootSays S R (Ok y)
    done_ran y e = subst (λ (y : Result Ran Stop). RootSays S R y) e g

    pub done_stopped : (s : Stop) → a ≡ Err s → RootStops S R s
    unfolding Goes
    done_stopped s e = subst (λ (y : Result Ran Stop). RootSays S R y) e g

pub ruleset finish_cases = (done_left, done_wrong, done_passed, done_ran, done_stopped)

-- ---- finish_stopped

module _ {Tree : Type 0} (S : Shape Tree) (R : Reader Tree) (s : Stop) (g : RootStops S R s) where
  pub stop_unread : (f : Refusal) → s ≡ Unread f → Says (Err f) (after_sizes S R)
  unfolding Stops verdict_answer
  stop_unread f e = ap verdict_answer (all_unread S R f.number f.tree (subst (λ (y : Stop). RootStops S R y) e g))

  module _ (f : Refusal) (at : ℕ) (e : s ≡ Unnested f at) where
    unnested : Unnests S R (nest S (listing S R)) 0 R.trees f.number f.tree at
    unfolding Stops
    unnested = subst (λ (y : Stop). RootStops S R y) e g

    pub stop_inside : (k : ℕ) → k ≡ R.trees → f.tree ≤ k
    stop_inside k c = let h = unnested.inside in omega arith

    pub stop_place : at ≡ place_of S R f.tree
    stop_place = unnested.place

    module _ (x : Result ℕ Refusal) (h : Ends S R f.tree x) where
      pub stop_later : (r : Refusal) → x ≡ Err r → (z : Result ⊤ Refusal) → z ≡ Err r → Says z (after_sizes S R)
      unfolding Ends verdict_answer
      stop_later r q z e =
          let f' = subst (λ (y : Result ℕ Refusal). Ends S R f.tree y) q h in
          e ∙ ap verdict_answer (all_unread S R r.number r.tree (unnested.reads ∙ f'))

      module _ (p : ℕ) (q : x ≡ Ok p) where
        pub stop_left : (z : Result ⊤ Refusal) (k : ℕ) → Says z (refused 9 k) → k ≡ R.trees → (p ≡ R.bytes → ⊥) → Says z (after_sizes S R)
        unfolding Ends
        stop_left z k y c d =
            let f' = subst (λ (y : Result ℕ Refusal). Ends S R f.tree y) q h in
            y ∙ ap verdict_answer (ap (λ x. refused 9 x) c ∙ left_over S R (unnested.reads ∙ f'.1) p f'.0 d)

        pub stop_here : p ≡ R.bytes → Says (Err f) (after_sizes S R)
        unfolding Ends verdict_answer
        stop_here d =
            let f' = subst (λ (y : Result ℕ Refusal). Ends S R f.tree y) q h in
            ap verdict_answer (all_unnested S R (unnested.reads ∙ f'.1) p f'.0 f.number f.tree d unnested.nests)

pub ruleset stop_cases = (stop_unread, stop_inside, stop_place, stop_later, stop_left, stop_here)

-- ---- check

module _ (b : List ℕ) (k p y : ℕ) (x : Bool) (e : x ≡ is_sized k p y) where
  pub check_one : (z : Result ⊤ Refusal) → not x ≡ true → Says z (refused 1 0) → Says z (check raw_shape (size_reader b k p y))
  unfolding size_reader
  check_one z h q = q ∙ ap verdict_answer (check_unsized raw_shape (size_reader b k p y) (sym e ∙ not-true x h))

  module _ (h : not x ≡ false) where
    silent : is_sized k p y ≡ true
    silent = sym e ∙ not-false x h

    pub check_tree : 1 ≤ k
    check_tree = leb-true 1 k (and_left (leb 1 k) (leb k 1048576) (and_left (leb 1 k && leb k 1048576) (tables_sized p y) silent))

    -- behind row 1 it makes no difference which sizes the tables may have
    pub check_on : (N : Limits) (z : Result ⊤ Refusal) → limits_of N ≡ own_limits p y → Says z (after_sizes raw_shape (reader_of b (record { trees = k; limits = N })))
        → Says z (check raw_shape (size_reader b k p y))
    unfolding size_reader
    check_on N z f q =
        let d : tables_sized p y ≡ true = and_right (leb 1 k && leb k 1048576) (tables_sized p y) silent in
        let g : limit_rules (limits_of N) ≡ count_rules p y = λ i. record { sized = sym d i; judged = row_eight (f i) } in
        q ∙ ap (λ (T : TableRules). verdict_answer (after_sizes raw_shape (raw_reader b k T))) g
        ∙ ap verdict_answer (check_sized raw_shape (size_reader b k p y) silent)

pub ruleset check_cases = (check_one, check_tree, check_on)

-- ---- check_buffer

and_false : (x y z : Bool) → y ≡ false → (x && (y && z)) ≡ false
and_false true y z e = rw e
and_false false y z e = refl

module _ (b : List ℕ) (k : ℕ) (parts symbols : List ℕ) (z : Result ⊤ Refusal) where
  pub buffer_one : (length parts % part_size ≡ 0 → ⊥) → Says z (refused 1 0) → Says z (buffer_check b k parts symbols)
  unfolding own_reader
  buffer_one h q =
      let d = and_false (leb 1 k && leb k 1048576) _ _ (ne_eqb (length parts % part_size) 0 h) in
      q ∙ ap verdict_answer (check_unsized word_shape (own_reader b k parts symbols) d)

  pub buffer_on : length parts % part_size ≡ 0 → Says z (check raw_shape (size_reader b k (length parts / part_size) (length symbols)))
      → Says z (buffer_check b k parts symbols)
  buffer_on h q = q ∙ ap verdict_answer (sym (own_check b k parts symbols h))

pub ruleset buffer_cases = (buffer_one, buffer_on)
