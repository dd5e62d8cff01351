-- The descent, of any reader: what its steps find out adds up to the flat check.
use Prim.Native.Nat.{ℕ, suc, ◌+◌, ◌-◌, ◌≤◌, ◌<◌}
use mathlib.Core.Bool.{Bool, true, false}
use mathlib.Core.Path.{◌≡◌, refl, sym, ap, ◌∙◌}
use native.Mathlib.Omega.{arith}
use borrow.Author.Tests.{lt-ltb, le-ltb, eq-eqb, ne_eqb}
use lib.Dec.{eqb, ltb}
use Rattle.std.specs.Prelude.{if◌then◌else◌}
use Rattle.format.specs.Verdict.{Verdict, passed, refused, ◌and_then◌, rule, each_from, each}
use Rattle.format.specs.Reader.{Shape, Reader}
use Rattle.format.specs.Plain.{end_of, sub}
use Rattle.format.specs.Nest.{nest, rooted}
use Rattle.format.proofs.NestRun.{run, nest_as_run, run_done, run_leaf, run_three, run_four, run_sub}
use Rattle.format.specs.Check.{place_of, listing, stored, read_rule, honest_rule, check}
use Rattle.format.proofs.Each.{then_passed, each_split}
use Rattle.checker.specs.Descent.{wrong_at, read_run, honest_run, LeafAt, SubtreeAt, Upto, Unnests, ReadTo, after_sizes}

-- ---- a run of trees, one rule each

module _ (f : ℕ → Verdict) where
  each_step : (n end : ℕ) → n < end → each_from f (end - n) n ≡ (f n and_then each_from f (end - (n + 1)) (n + 1))
  unfolding each_from
  each_step n end h = let e : end - n ≡ suc (end - (n + 1)) = omega arith in rw e

  each_cut : (n m end : ℕ) → n ≤ m → m ≤ end → each_from f (end - n) n ≡ (each_from f (m - n) n and_then each_from f (end - m) m)
  each_cut n m end h g =
      let e : end - n ≡ m - n + (end - m) = omega arith in
      let p : n + (m - n) ≡ m = omega arith in
      ap (λ j. each_from f j n) e ∙ each_split f (m - n) (end - m) n ∙ ap (λ i. each_from f (m - n) n and_then each_from f (end - m) i) p

  each_none : (n : ℕ) → each_from f (n - n) n ≡ passed
  unfolding each_from
  each_none n = let e : n - n ≡ 0 = omega arith in rw e

  -- tree n passes
  each_on : (n end : ℕ) → n < end → f n ≡ passed → each_from f (end - n) n ≡ each_from f (end - (n + 1)) (n + 1)
  each_on n end h p = each_step n end h ∙ rw p

  each_stop : (n end r t : ℕ) → n < end → f n ≡ refused r t → each_from f (end - n) n ≡ refused r t
  each_stop n end r t h p = each_step n end h ∙ rw p

  -- a part that says v is behind the front, and the rest follows
  each_part : (n m end : ℕ) (v : Verdict) → n ≤ m → m ≤ end → each_from f (m - n) n ≡ v → each_from f (end - n) n ≡ (v and_then each_from f (end - m) m)
  each_part n m end v h g p = each_cut n m end h g ∙ ap (λ u. u and_then each_from f (end - m) m) p

no_wrong : (k : ℕ) → wrong_at k k ≡ passed
no_wrong k = let t = le-ltb k k (omega arith) in simp t

some_wrong : (k w : ℕ) → w < k → wrong_at k w ≡ refused 9 w
some_wrong k w h = let t = lt-ltb w k h in simp t

-- the first of two
two_wrong : (k w x : ℕ) (v : Verdict) → (wrong_at k w and_then (wrong_at k x and_then v)) ≡ (wrong_at k (if ltb w k then w else x) and_then v)
two_wrong k w x v = go (ltb w k) refl
  where
    go : (c : Bool) → ltb w k ≡ c → (wrong_at k w and_then (wrong_at k x and_then v)) ≡ (wrong_at k (if ltb w k then w else x) and_then v)
    go true p = simp p
    go false p = simp p

module _ {Tree : Type 0} (S : Shape Tree) (R : Reader Tree) where
  -- ---- a run goes on

  pub upto_start : (n end depth at : ℕ) → n ≤ end → at ≡ place_of S R n → Upto S R (run S (listing S R) n end depth) n end depth n at R.trees
  upto_start n end depth at h p = record { inside = h; place = p; reads = refl; nests = refl; honest = rw (no_wrong R.trees) }

  module _ (v : Verdict) (n end depth m at w : ℕ) (u : Upto S R v n end depth m at w) where
    pub upto_more : (m' at' w' : ℕ) → Upto S R (run S (listing S R) m end depth) m end depth m' at' w' → Upto S R v n end depth m' at' (if ltb w R.trees then w else w')
    upto_more m' at' w' q =
        record {
          inside = q.inside;
          place = q.place;
          reads = u.reads ∙ q.reads;
          nests = u.nests ∙ q.nests;
          honest = u.honest ∙ ap (λ x. wrong_at R.trees w and_then x) q.honest ∙ two_wrong R.trees w w' (honest_run S R m' end);
        }

    pub upto_unread : (r t : ℕ) → read_run S R m end ≡ refused r t → read_run S R n end ≡ refused r t
    upto_unread r t q = u.reads ∙ q

    pub upto_unnests : (r t at' : ℕ) → Unnests S R (run S (listing S R) m end depth) m end r t at' → Unnests S R v n end r t at'
    upto_unnests r t at' q = record { inside = q.inside; place = q.place; reads = u.reads ∙ q.reads; nests = u.nests ∙ q.nests }

    pub upto_leaf : (next : ℕ) → m < end → LeafAt S R m next → Upto S R v n end depth (m + 1) next w
    upto_leaf next h l =
        let t : honest_rule S R m ≡ passed = rw l.flat in
        record {
          inside = omega arith;
          place = l.place;
          reads = u.reads ∙ each_on (read_rule S R) m end h l.readable;
          nests = u.nests ∙ run_leaf S (listing S R) m end depth h l.flat;
          honest = u.honest ∙ ap (λ x. wrong_at R.trees w and_then x) (each_on (honest_rule S R) m end h t);
        }

    pub upto_bad : (r : ℕ) → m < end → read_rule S R m ≡ refused r m → read_run S R n end ≡ refused r m
    upto_bad r h q = u.reads ∙ each_stop (read_rule S R) m end r m h q

  -- ---- a subtree n, of so many descendants

  module _ (n end depth at count kids next : ℕ) (s : SubtreeAt S R n count kids next) (h : n < end) (p : at ≡ place_of S R n) where
    pub sub_three : end - n - 1 < count → Unnests S R (run S (listing S R) n end depth) n end 3 n at
    sub_three g =
        let e = s.ends in
        record { inside = omega arith; place = p; reads = refl; nests = run_three S (listing S R) n end depth h s.holds (omega arith) }

    module _ (g : count ≤ end - n - 1) where
      fits : end_of S (listing S R) n ≤ end
      fits = let e = s.ends in omega arith

      pub sub_four : depth ≡ 0 → Unnests S R (run S (listing S R) n end depth) n end 4 n at
      sub_four z =
          record {
            inside = omega arith;
            place = p;
            reads = refl;
            nests = ap (λ d. run S (listing S R) n end d) z ∙ run_four S (listing S R) n end h s.holds fits;
          }

      opened : (depth ≡ 0 → ⊥) → run S (listing S R) n end depth ≡ (run S (listing S R) (n + 1) (n + 1 + count) (depth - 1) and_then run S (listing S R) (n + 1 + count) end depth)
      opened z =
          run_sub S (listing S R) n end depth h s.holds fits (omega arith) ∙ ap (λ e. run S (listing S R) (n + 1) e (depth - 1) and_then run S (listing S R) e end depth) s.ends

      below : (v : Verdict) → read_run S R (n + 1) (n + 1 + count) ≡ v → read_run S R n end ≡ (v and_then read_run S R (n + 1 + count) end)
      below v q =
          each_on (read_rule S R) n end h s.readable ∙ each_part (read_rule S R) (n + 1) (n + 1 + count) end v (omega arith) (omega arith) q

      pub sub_unread : (r t : ℕ) → read_run S R (n + 1) (n + 1 + count) ≡ refused r t → read_run S R n end ≡ refused r t
      sub_unread r t q = below (refused r t) q

      pub sub_unnests : (r t at' : ℕ) → (depth ≡ 0 → ⊥) → Unnests S R (run S (listing S R) (n + 1) (n + 1 + count) (depth - 1)) (n + 1) (n + 1 + count) r t at'
          → Unnests S R (run S (listing S R) n end depth) n end r t at'
      sub_unnests r t at' z q =
          let i = q.inside in
          record {
            inside = omega arith;
            place = q.place;
            reads = below (read_run S R t (n + 1 + count)) q.reads ∙ sym (each_cut (read_rule S R) t (n + 1 + count) end i (omega arith));
            nests = opened z ∙ ap (λ v. v and_then run S (listing S R) (n + 1 + count) end depth) q.nests;
          }

      module _ (z : depth ≡ 0 → ⊥) (after w : ℕ) (q : Upto S R (run S (listing S R) (n + 1) (n + 1 + count) (depth - 1)) (n + 1) (n + 1 + count) (depth - 1) (n + 1 + count) after w) where
        through_reads : read_run S R n end ≡ read_run S R (n + 1 + count) end
        through_reads = below passed (q.reads ∙ each_none (read_rule S R) (n + 1 + count))

        through_nests : run S (listing S R) n end depth ≡ run S (listing S R) (n + 1 + count) end depth
        through_nests =
            let e = q.nests ∙ run_done S (listing S R) (n + 1 + count) (n + 1 + count) (depth - 1) (omega arith) in
            opened z ∙ ap (λ v. v and_then run S (listing S R) (n + 1 + count) end depth) e

        below_honest : honest_run S R (n + 1) end ≡ (wrong_at R.trees w and_then honest_run S R (n + 1 + count) end)
        below_honest =
            let e : honest_run S R (n + 1) (n + 1 + count) ≡ wrong_at R.trees w =
            q.honest ∙ ap (λ v. wrong_at R.trees w and_then v) (each_none (honest_rule S R) (n + 1 + count)) ∙ then_passed (wrong_at R.trees w)
            in
            each_part (honest_rule S R) (n + 1) (n + 1 + count) end (wrong_at R.trees w) (omega arith) (omega arith) e

        -- the test on the stored children bytes
        tested : (b : Bool) → eqb (next + kids) after ≡ b → honest_rule S R n ≡ rule b 9 n
        tested b e =
            let t : eqb (place_of S R (n + 1) + stored S R n) (place_of S R (end_of S (listing S R) n)) ≡ b = rw (s.bytes, s.ends, ← s.place, ← q.place) e in
            simp (s.holds, t)

        pub sub_honest : next + kids ≡ after → Upto S R (run S (listing S R) n end depth) n end depth (n + 1 + count) after w
        sub_honest e =
            record {
              inside = omega arith;
              place = q.place;
              reads = through_reads;
              nests = through_nests;
              honest = each_on (honest_rule S R) n end h (tested true (eq-eqb _ _ e)) ∙ below_honest;
            }

        pub sub_wrong : n < R.trees → (next + kids ≡ after → ⊥) → Upto S R (run S (listing S R) n end depth) n end depth (n + 1 + count) after n
        sub_wrong k e =
            record {
              inside = omega arith;
              place = q.place;
              reads = through_reads;
              nests = through_nests;
              honest = each_stop (honest_rule S R) n end 9 n h (tested false (ne_eqb _ _ e)) ∙ rw (some_wrong R.trees n k);
            }

  -- ---- the root

  -- under a root that holds all others, the nest rule is the run of all trees, with 256 to be opened
  pub nest_run : sub S (listing S R) 0 ≡ true → end_of S (listing S R) 0 ≡ R.trees → nest S (listing S R) ≡ run S (listing S R) 0 R.trees 256
  nest_run a e =
      let t : rooted S (listing S R) ≡ true = simp (a, e, eq-eqb R.trees R.trees refl) in
      let x = run_sub S (listing S R) 0 R.trees 256 (omega arith) a (omega arith) (omega arith) in
      let y = run_done S (listing S R) R.trees R.trees 256 (omega arith) in
      let u : (if rooted S (listing S R) then run S (listing S R) 1 R.trees 255 else refused 3 0) ≡ run S (listing S R) 1 R.trees 255 = rw t in
      let z : (run S (listing S R) 1 (end_of S (listing S R) 0) 255 and_then run S (listing S R) (end_of S (listing S R) 0) R.trees 256) ≡ run S (listing S R) 1 R.trees 255 =
      rw (e, y) (then_passed (run S (listing S R) 1 R.trees 255))
      in
      nest_as_run S (listing S R) ∙ u ∙ sym (x ∙ z)

  pub nest_flat : sub S (listing S R) 0 ≡ false → nest S (listing S R) ≡ refused 3 0
  nest_flat a = simp a

  pub nest_short : (end_of S (listing S R) 0 ≡ R.trees → ⊥) → nest S (listing S R) ≡ refused 3 0
  nest_short e = go (sub S (listing S R) 0) refl
    where
      go : (b : Bool) → sub S (listing S R) 0 ≡ b → nest S (listing S R) ≡ refused 3 0
      go true a = let t = ne_eqb (end_of S (listing S R) 0) R.trees e in simp (a, t)
      go false a = nest_flat a

  -- ---- reading alone

  pub read_start : (n at : ℕ) → n ≤ R.trees → at ≡ place_of S R n → ReadTo S R n n at
  read_start n at h p = record { inside = h; place = p; reads = refl }

  module _ (n m at : ℕ) (u : ReadTo S R n m at) where
    pub read_on : (next : ℕ) → m < R.trees → read_rule S R m ≡ passed → next ≡ place_of S R (m + 1) → ReadTo S R n (m + 1) next
    read_on next h r p = record { inside = omega arith; place = p; reads = u.reads ∙ each_on (read_rule S R) m R.trees h r }

    pub read_bad : (r : ℕ) → m < R.trees → read_rule S R m ≡ refused r m → read_run S R n R.trees ≡ refused r m
    read_bad r h q = u.reads ∙ each_stop (read_rule S R) m R.trees r m h q

    pub read_end : R.trees ≤ m → (at ≡ place_of S R R.trees) × (read_run S R n R.trees ≡ passed)
    read_end h =
        let i = u.inside in
        let e : m ≡ R.trees = omega arith in
        (u.place ∙ ap (λ x. place_of S R x) e, u.reads ∙ ap (λ x. read_run S R x R.trees) e ∙ each_none (read_rule S R) R.trees)

  -- ---- the whole check

  all_trees : (f : ℕ → Verdict) → each_from f (R.trees - 0) 0 ≡ each f R.trees
  all_trees f = let e : R.trees - 0 ≡ R.trees = omega arith in rw e

  pub check_unsized : R.sized ≡ false → refused 1 0 ≡ check S R
  unfolding check
  check_unsized e = simp e

  pub check_sized : R.sized ≡ true → after_sizes S R ≡ check S R
  unfolding check after_sizes
  check_sized e = simp e

  pub all_unread : (r t : ℕ) → read_run S R 0 R.trees ≡ refused r t → refused r t ≡ after_sizes S R
  unfolding after_sizes
  all_unread r t q = let e = sym (all_trees (read_rule S R)) ∙ q in rw e

  module _ (reads : read_run S R 0 R.trees ≡ passed) (at : ℕ) (p : at ≡ place_of S R R.trees) where
    pub left_over : (at ≡ R.bytes → ⊥) → refused 9 R.trees ≡ after_sizes S R
    unfolding after_sizes
    left_over d =
        let e = sym (all_trees (read_rule S R)) ∙ reads in
        let t : eqb (place_of S R R.trees) R.bytes ≡ false = rw (← p) (ne_eqb _ _ d) in
        rw e (rw t)

    none_left : at ≡ R.bytes → after_sizes S R ≡ (nest S (listing S R) and_then each (honest_rule S R) R.trees)
    unfolding after_sizes
    none_left d =
        let e = sym (all_trees (read_rule S R)) ∙ reads in
        let t : eqb (place_of S R R.trees) R.bytes ≡ true = rw (← p) (eq-eqb _ _ d) in
        rw e (rw t)

    pub all_unnested : (r t : ℕ) → at ≡ R.bytes → nest S (listing S R) ≡ refused r t → refused r t ≡ after_sizes S R
    all_unnested r t d q = sym (none_left d ∙ ap (λ v. v and_then each (honest_rule S R) R.trees) q)

    pub all_nested : (w : ℕ) → at ≡ R.bytes → nest S (listing S R) ≡ passed → honest_run S R 0 R.trees ≡ wrong_at R.trees w → wrong_at R.trees w ≡ after_sizes S R
    all_nested w d q h = sym (none_left d ∙ ap (λ v. v and_then each (honest_rule S R) R.trees) q ∙ sym (all_trees (honest_rule S R)) ∙ h)

  -- all trees are gone through
  module _ (depth at w : ℕ) (u : Upto S R (nest S (listing S R)) 0 R.trees depth R.trees at w) where
    pub gone_reads : read_run S R 0 R.trees ≡ passed
    gone_reads = u.reads ∙ each_none (read_rule S R) R.trees

    pub gone_nests : nest S (listing S R) ≡ passed
    gone_nests = u.nests ∙ run_done S (listing S R) R.trees R.trees depth (omega arith)

    pub gone_honest : honest_run S R 0 R.trees ≡ wrong_at R.trees w
    gone_honest = u.honest ∙ ap (λ v. wrong_at R.trees w and_then v) (each_none (honest_rule S R) R.trees) ∙ then_passed (wrong_at R.trees w)

    pub through_left : (at ≡ R.bytes → ⊥) → refused 9 R.trees ≡ after_sizes S R
    through_left d = left_over gone_reads at u.place d

    pub through_wrong : at ≡ R.bytes → w < R.trees → refused 9 w ≡ after_sizes S R
    through_wrong d h = sym (some_wrong R.trees w h) ∙ all_nested gone_reads at u.place w d gone_nests gone_honest

    pub through_passed : at ≡ R.bytes → R.trees ≤ w → passed ≡ after_sizes S R
    through_passed d h =
        let t = le-ltb w R.trees h in
        let e : wrong_at R.trees w ≡ passed = simp t in
        sym e ∙ all_nested gone_reads at u.place w d gone_nests gone_honest
