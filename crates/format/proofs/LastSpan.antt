-- `last_span`: one more step of it, and over an admitted buffer it is the last tree's.
use Prim.Native.Nat.{ℕ, zero, suc, ◌+◌, ◌-◌, ◌≤◌, ◌<◌}
use mathlib.Core.Bool.{Bool, true, false, ◌&&◌}
use mathlib.Core.Path.{◌≡◌, refl, sym, ap, ◌∙◌, subst}
use native.Mathlib.Omega.{arith}
use borrow.Author.Tests.{le-leb, lt-leb, le-ltb, ne_eqb, eqb-true, eqb-false, ltb-true, ltb-false, leb-false}
use lib.Dec.{leb, eqb, ltb}
use Rattle.std.specs.Prelude.{if◌then◌else◌}
use Rattle.format.specs.Reader.{Shape, Reader, Reply, got, bad, Answer, done, none, one, two, refused}
use Rattle.format.specs.Walk.{Walk, WalkCall, advance, skip, walk_fits, walk_read, walk_step, fresh_walk}
use Rattle.format.specs.LastSpan.{last_after, last_for, last_tree}
use Rattle.format.specs.Plain.{Listing, end_of, sub, plain_walk_go}
use Rattle.format.specs.Nest.{Nested}
use Rattle.format.proofs.ListRead.{Reads}
use Rattle.format.proofs.Each.{true_false}
use Rattle.format.proofs.WalkRun.{place_le, lands}

module _ {Tree : Type 0} (S : Shape Tree) (R : Reader Tree) where
  -- ---- a step that hands back a tree leaves fewer trees

  none_one : {A : Type 0} (t : Tree) → none ≡ one t → A
  none_one t e = let z : ◌≡◌ {A = ℕ} 0 1 = cc in absurd (omega arith)

  refused_one : {A : Type 0} (r n : ℕ) (t : Tree) → refused r n ≡ one t → A
  refused_one r n t e = let z : ◌≡◌ {A = ℕ} 0 1 = cc in absurd (omega arith)

  read_less : (w : Walk) (t : Tree) (r : Reply Tree) → 0 < w.left → (walk_read S R skip w r).0 ≡ one t
      → ((walk_read S R skip w r).1.left < w.left) × ((walk_read S R advance w r).1.left < w.left)
  read_less w t (bad r) h e = refused_one r w.number t e
  read_less w t (got u next kids) h e = go _ _ _ refl refl refl
    where
      go : (x y z : Bool) → S.is_sub u ≡ x → leb w.left (S.count u) ≡ y → ltb R.bytes (next + kids) ≡ z
          → ((walk_read S R skip w (got u next kids)).1.left < w.left) × ((walk_read S R advance w (got u next kids)).1.left < w.left)
      go false y z f g i = (simp f (omega arith), omega arith)
      go true true z f g i = refused_one 3 w.number t (simp (f, g) at e)
      go true false true f g i = refused_one 9 w.number t (simp (f, g, i) at e)
      go true false false f g i = let l = leb-false w.left (S.count u) g in (simp (f, g, i) (omega arith), omega arith)

  pub step_less : (w : Walk) (t : Tree) → (walk_step S R skip w).0 ≡ one t → ((walk_step S R skip w).1.left < w.left) × ((walk_step S R advance w).1.left < w.left)
  unfolding walk_step
  step_less w t e = go _ _ _ refl refl refl
    where
      go : (x y z : Bool) → R.sized ≡ x → walk_fits S R w ≡ y → eqb w.left 0 ≡ z
          → ((walk_step S R skip w).1.left < w.left) × ((walk_step S R advance w).1.left < w.left)
      go false y z f g h = refused_one 1 0 t (simp f at e)
      go true false z f g h = refused_one 10 0 t (simp (f, g) at e)
      go true true true f g h = none_one t (simp (f, g, h) at e)
      go true true false f g h =
          let d = eqb-false w.left 0 h in
          let e' : (walk_read S R skip w (R.read w.number w.place)).0 ≡ one t = simp (f, g, h) at e in
          simp (f, g, h) (read_less w t (R.read w.number w.place) (omega arith) e')

  -- ---- more steps than trees left change nothing

  after_same : (f g : Walk → Answer Tree) (w : Walk) → ((v : Walk) → v.left < w.left → f v ≡ g v)
      → last_after S R f w (walk_step S R skip w).0 (walk_step S R skip w).1 ≡ last_after S R g w (walk_step S R skip w).0 (walk_step S R skip w).1
  after_same f g w same = go (walk_step S R skip w).0 refl
    where
      go : (a : Answer Tree) → (walk_step S R skip w).0 ≡ a → last_after S R f w a (walk_step S R skip w).1 ≡ last_after S R g w a (walk_step S R skip w).1
      go (one t) e =
          let l = step_less w t e in
          ap (λ x. if ltb 0 (walk_step S R skip w).1.left then x else
          (if S.is_sub t && ltb 0 (S.count t) then f (walk_step S R advance w).1 else one t)) (same (walk_step S R skip w).1 l.0)
          ∙ ap (λ x. if ltb 0 (walk_step S R skip w).1.left then g (walk_step S R skip w).1 else (if S.is_sub t && ltb 0 (S.count t) then x else one t))
          (same (walk_step S R advance w).1 l.1)
      go (refused r n) e = refl
      go none e = refl
      go done e = refl
      go (two t u) e = refl

  enough : (f g : ℕ) (w : Walk) → w.left < f → w.left < g → last_for S R f w ≡ last_for S R g w
  unfolding last_for
  enough zero g w h k = absurd (omega arith)
  enough (suc f) zero w h k = absurd (omega arith)
  enough (suc f) (suc g) w h k = after_same (last_for S R f) (last_for S R g) w (λ v l. enough f g v (omega arith) (omega arith))

  -- the rule by which a loop goes on: what is last of w is last of what the next step leaves
  pub last_step : (w : Walk) → last_tree S R w ≡ last_after S R (last_tree S R) w (walk_step S R skip w).0 (walk_step S R skip w).1
  unfolding last_for
  last_step w = rw plus (after_same (last_for S R w.left) (last_tree S R) w (λ v l. enough w.left (v.left + 1) v l (omega arith)))
    where
      plus : w.left + 1 ≡ suc w.left
      plus = omega arith

  -- a refused step is its refusal
  pub last_refused : (w : Walk) (r n : ℕ) → (walk_step S R skip w).0 ≡ refused r n → last_tree S R w ≡ refused r n
  last_refused w r n e = last_step w ∙ rw e

-- ---- over an admitted buffer

module _ {Tree : Type 0} (S : Shape Tree) (R : Reader Tree) (L : Listing Tree) (kids : ℕ → ℕ) (rd : Reads S R L kids) (ne : Nested S L) where
  -- the walk at tree n with the trees before m left
  abbrev pub up_to : ℕ → ℕ → Walk
  up_to m n = record { place = L.place n; number = n; left = m - n }

  module _ (m : ℕ) (hm : m ≤ L.k) where
    fits : (n : ℕ) → n ≤ m → walk_fits S R (up_to m n) ≡ true
    fits n h =
        let t = rd.total in
        let a : leb (L.place n) R.bytes ≡ true = le-leb _ _ (place_le S R L kids rd ne n (omega arith)) in
        let b : leb (n + (m - n)) R.trees ≡ true = le-leb (n + (m - n)) R.trees (omega arith) in
        simp (a, b)

    step_is : (c : WalkCall) (n : ℕ) → n < m → walk_step S R c (up_to m n) ≡ walk_read S R c (up_to m n) (got (L.tree n) (L.place (n + 1)) (kids n))
    unfolding walk_step
    step_is c n h =
        let s = rd.sized in
        let a = fits n (omega arith) in
        let r = rd.reads n (omega arith) in
        let z : eqb (m - n) 0 ≡ false = ne_eqb (m - n) 0 (omega arith) in
        simp (s, a, z, r)

    on_one : (n : ℕ) → n < m → walk_step S R advance (up_to m n) ≡ (one (L.tree n), up_to m (n + 1))
    on_one n h =
        let e : m - n - 1 ≡ m - (n + 1) = omega arith in
        step_is advance n h ∙ rw e

    past : (n : ℕ) → n < m → sub S L n ≡ true → end_of S L n ≤ m → walk_step S R skip (up_to m n) ≡ (one (L.tree n), up_to m (end_of S L n))
    past n h s i =
        let p = rd.honest n (omega arith) s in
        let q = place_le S R L kids rd ne (end_of S L n) (omega arith) in
        let c : leb (m - n) (S.count (L.tree n)) ≡ false = lt-leb (m - n) (S.count (L.tree n)) (omega arith) in
        let d : ltb R.bytes (L.place (end_of S L n)) ≡ false = le-ltb _ _ q in
        let f : n + (1 + S.count (L.tree n)) ≡ end_of S L n = omega arith in
        let g : m - n - (1 + S.count (L.tree n)) ≡ m - end_of S L n = omega arith in
        step_is skip n h ∙ simp (s, c, p, d, f, g)

    past_leaf : (n : ℕ) → n < m → sub S L n ≡ false → walk_step S R skip (up_to m n) ≡ (one (L.tree n), up_to m (n + 1))
    past_leaf n h s =
        let e : m - n - 1 ≡ m - (n + 1) = omega arith in
        step_is skip n h ∙ simp (s, e)

    -- LAST SPAN: of the trees n to m - 1, none of which reaches past m, it is that of the last one
    pub last_is : (f n : ℕ) → m - n < f → n < m → ((i : ℕ) → n ≤ i → i < m → sub S L i ≡ true → end_of S L i ≤ m) → last_for S R f (up_to m n) ≡ one (L.tree (m - 1))
    unfolding last_for
    last_is zero n e h closed = absurd (omega arith)
    last_is (suc f) n e h closed = go (sub S L n) refl (last_is f)
      where
        Rest : Type 0
        Rest = (n : ℕ) → m - n < f → n < m → ((i : ℕ) → n ≤ i → i < m → sub S L i ≡ true → end_of S L i ≤ m) → last_for S R f (up_to m n) ≡ one (L.tree (m - 1))

        here : n + 1 ≡ m → one (L.tree n) ≡ one (L.tree (m - 1))
        here q = let j : n ≡ m - 1 = omega arith in ap (λ x. one (L.tree x)) j

        leaf : sub S L n ≡ false → (b : Bool) → ltb 0 (m - (n + 1)) ≡ b → Rest → last_for S R (suc f) (up_to m n) ≡ one (L.tree (m - 1))
        leaf s true b rec =
            let l = ltb-true 0 (m - (n + 1)) b in
            rw (past_leaf n h s) (simp b (rec (n + 1) (omega arith) (omega arith) (λ i x y z. closed i (omega arith) y z)))
        leaf s false b rec =
            let l = ltb-false 0 (m - (n + 1)) b in
            rw (past_leaf n h s) (simp (b, s) (here (omega arith)))

        subtree : (s : sub S L n ≡ true) → (b c : Bool) → ltb 0 (m - end_of S L n) ≡ b → ltb 0 (S.count (L.tree n)) ≡ c → Rest → last_for S R (suc f) (up_to m n) ≡ one (L.tree (m - 1))
        subtree s true c b d rec =
            let l = ltb-true 0 (m - end_of S L n) b in
            rw (past n h s (closed n (omega arith) h s)) (simp b (rec (end_of S L n) (omega arith) (omega arith) (λ i x y z. closed i (omega arith) y z)))
        subtree s false true b d rec =
            let i = closed n (omega arith) h s in
            let l = ltb-false 0 (m - end_of S L n) b in
            let k = ltb-true 0 (S.count (L.tree n)) d in
            rw (past n h s i) (simp (b, s, d) (rw (on_one n h) (rec (n + 1) (omega arith) (omega arith) (λ i x y z. closed i (omega arith) y z))))
        subtree s false false b d rec =
            let i = closed n (omega arith) h s in
            let l = ltb-false 0 (m - end_of S L n) b in
            let k = ltb-false 0 (S.count (L.tree n)) d in
            rw (past n h s i) (simp (b, s, d) (here (omega arith)))

        go : (x : Bool) → sub S L n ≡ x → Rest → last_for S R (suc f) (up_to m n) ≡ one (L.tree (m - 1))
        go true s rec = subtree s (ltb 0 (m - end_of S L n)) (ltb 0 (S.count (L.tree n))) refl refl rec
        go false s rec = leaf s (ltb 0 (m - (n + 1))) refl rec

  -- of the whole buffer
  pub last_whole : 1 ≤ L.k → last_tree S R (fresh_walk R) ≡ one (L.tree (L.k - 1))
  last_whole h =
      let t = rd.total in
      let z : L.k - 0 ≡ R.trees = omega arith in
      let w : fresh_walk R ≡ up_to L.k 0 = simp (rd.first, z) in
      rw w (last_is L.k (omega arith) (R.trees + 1) 0 (omega arith) h (λ i x y s. ne.in_list i y s))

  -- of tree n and what it holds, trees n to m - 1
  module _ (n m : ℕ) (h : n < L.k) (d : m ≡ plain_walk_go S L skip n) where
    behind : n < m
    behind = go (sub S L n) refl
      where
        go : (a : Bool) → sub S L n ≡ a → n < m
        go true e = let f : m ≡ end_of S L n = rw e at d in omega arith
        go false e = let f : m ≡ n + 1 = rw e at d in omega arith

    held : (i : ℕ) → n ≤ i → i < m → sub S L i ≡ true → end_of S L i ≤ m
    held i x y z = go (sub S L n) (eqb i n) refl refl
      where
        go : (a b : Bool) → sub S L n ≡ a → eqb i n ≡ b → end_of S L i ≤ m
        go true true e q =
            let f : m ≡ end_of S L n = rw e at d in
            let j = eqb-true i n q in
            rw (f, j) (omega arith)
        go true false e q =
            let f : m ≡ end_of S L n = rw e at d in
            let j = eqb-false i n q in
            let k = ne.in_list n h e in
            rw f (ne.in_other n i (omega arith) (omega arith) (omega arith) e z)
        go false b e q =
            let f : m ≡ n + 1 = rw e at d in
            let j : n ≡ i = omega arith in
            true_false (sub S L i) z (ap (sub S L) (sym j) ∙ e)

    -- all of them or from tree s on: that of the last one
    pub last_within_lem : (s : ℕ) → n ≤ s → s < m → last_tree S R (up_to m s) ≡ one (L.tree (m - 1))
    last_within_lem s g l =
        let k : m ≤ L.k = subst (λ x. x ≤ L.k) (sym d) (lands S R L kids rd ne skip n h) in
        last_is m k (m - s + 1) s (omega arith) l (λ i x y z. held i (omega arith) y z)

    -- … which is a leaf or an empty subtree
    pub last_empty : sub S L (m - 1) ≡ true → S.count (L.tree (m - 1)) ≡ 0
    last_empty e = let l = behind in omega (arith, held (m - 1) (omega arith) (omega arith) e)
