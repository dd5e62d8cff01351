-- One law for each return and call of the functions of src/leaf.rt, with premises as the code's tests and calls give them.
use Prim.Native.Nat.{ℕ, ◌+◌, ◌*◌, ◌-◌, ◌/◌, ◌≤◌, ◌<◌, ◌^◌}
use mathlib.Core.Bool.{Bool, true, false, not, ◌&&◌}
use mathlib.Core.Path.{◌≡◌, refl, sym, ap, ◌∙◌, subst}
use mathlib.Core.List.{List}
use native.Mathlib.Omega.{arith}
use borrow.Author.Tests.{le-leb, lt-leb, lt-ltb, le-ltb, leb-true}
use lib.Dec.{leb, ltb}
use lib.ListN.{length}
use Rattle.std.specs.Prelude.{Result, Ok, Err}
use Rattle.format.specs.Verdict.{passed}
use Rattle.format.specs.Reader.{Reader, Reply, got, bad}
use Rattle.format.specs.Tree.{Raw, tree_at, is_subtree, count_of}
use Rattle.format.specs.Plain.{Listing, sub}
use Rattle.format.specs.Width.{part_size}
use Rattle.format.specs.Tables as tables
use Rattle.format.specs.Tables.{own_limits, row_eight, own_mode, own_tables}
use Rattle.format.specs.Check.{check, Admitted, tree_of, place_of, reading, listing, stored}
use Rattle.format.specs.Buffer.{word_shape, raw_shape, judge, own_reader, buffer_check}
use Rattle.format.specs.Replace.{is_leaf}
use Rattle.format.proofs.CheckLaw.{check_sound}
use Rattle.format.proofs.Own.{own_sound}
use Rattle.format.proofs.Each.{and_right}
use Rattle.format.proofs.Sight.{Alike, sub_same, check_same}
use Rattle.format.proofs.RawReader.{mode_telling, raw_alike}
use Rattle.tree.specs.Raw.{RawAt, raw_of, raw_answer}
use Rattle.tree.specs.Mode.{limits_of}
use Rattle.tree.specs.declared.limits.Limits.{Limits}
use Rattle.tree.specs.declared.raw.RawPunct.{RawPunct}
use Rattle.tree.specs.declared.raw.RawIdent.{RawIdent}
use Rattle.tree.specs.declared.raw.RawLiteral.{RawLiteral}
use Rattle.tree.specs.declared.raw.RawSubtree.{RawSubtree}
use Rattle.tree.specs.declared.raw.RawTree.{RawTree}
use Rattle.tree.specs.declared.raw.RawTree.TheVariants.{Punct, Ident, Literal, Subtree}
use Rattle.decode.specs.Judge.{limit_rules}
use Rattle.decode.proofs.ReadUse.{reply_got, reply_bad}
use Rattle.decode.proofs.JudgeUse.{judged_inside}
use Rattle.unpack.specs.Leaf.{raw_in, raw_at, into, past, toward, is_flat}
use Rattle.unpack.specs.declared.leaf.Reached.{Reached}

-- ---- past

module _ (m n next kids count : ℕ) (h : m < n) where
  pub past_into : n - m ≤ count → (r : Reached) → r ≡ into m next → r ≡ past m n next kids count
  unfolding past
  past_into k r e = let l : n < m + 1 + count = omega arith in e ∙ simp (lt-leb _ _ l)

  pub past_all : count < n - m → record { number = m + 1 + count; at = next + kids } ≡ past m n next kids count
  unfolding past
  past_all k = let l : m + 1 + count ≤ n = omega arith in simp (le-leb _ _ l)

pub ruleset past_cases = (past_into, past_all)

-- ---- toward

module _ (m n next kids : ℕ) (t : RawTree) (r : Reached) where
  pub toward_punct : (p : RawPunct) → t ≡ Punct p → r ≡ into m next → r ≡ toward m n (got (raw_of t) next kids)
  unfolding toward raw_of
  toward_punct p e q = q ∙ rw e

  pub toward_ident : (p : RawIdent) → t ≡ Ident p → r ≡ into m next → r ≡ toward m n (got (raw_of t) next kids)
  unfolding toward raw_of
  toward_ident p e q = q ∙ rw e

  pub toward_literal : (p : RawLiteral) → t ≡ Literal p → r ≡ into m next → r ≡ toward m n (got (raw_of t) next kids)
  unfolding toward raw_of
  toward_literal p e q = q ∙ rw e

  pub toward_subtree : (p : RawSubtree) → t ≡ Subtree p → r ≡ past m n next kids p.len.0 → r ≡ toward m n (got (raw_of t) next kids)
  unfolding toward raw_of
  toward_subtree p e q = q ∙ rw e

pub ruleset toward_cases = (toward_punct, toward_ident, toward_literal, toward_subtree)

-- ---- is_flat

module _ (t : RawTree) where
  pub flat_punct : (p : RawPunct) → t ≡ Punct p → true ≡ not (is_subtree (raw_of t))
  unfolding raw_of
  flat_punct p e = rw e

  pub flat_ident : (p : RawIdent) → t ≡ Ident p → true ≡ not (is_subtree (raw_of t))
  unfolding raw_of
  flat_ident p e = rw e

  pub flat_literal : (p : RawLiteral) → t ≡ Literal p → true ≡ not (is_subtree (raw_of t))
  unfolding raw_of
  flat_literal p e = rw e

  pub flat_subtree : (p : RawSubtree) → t ≡ Subtree p → false ≡ not (is_subtree (raw_of t))
  unfolding raw_of
  flat_subtree p e = rw e

pub ruleset flat_cases = (flat_punct, flat_ident, flat_literal, flat_subtree)

-- ---- onward, is_flat_at

module _ (b : List ℕ) (N : Limits) (m at : ℕ) (r : Result RawAt ℕ) (e : r ≡ raw_answer (judge (λ n t. t) (limit_rules (limits_of N)) m at (tree_at b at))) where
  abbrev here : Reply Raw
  here = judge (λ n t. t) (limit_rules (limits_of N)) m at (tree_at b at)

  module _ (k : ℕ) (q : r ≡ Err k) where
    pub onward_bad : (n : ℕ) (x : Reached) → x ≡ into m 0 → x ≡ toward m n (raw_at b N m at)
    unfolding toward raw_at
    onward_bad n x f = let d = reply_bad here r e k q in f ∙ rw d

    pub flat_bad : true ≡ is_flat (raw_at b N m at)
    unfolding is_flat raw_at
    flat_bad = let d = reply_bad here r e k q in rw d

  module _ (y : RawAt) (q : r ≡ Ok y) where
    pub onward_got : (n kids : ℕ) → kids ≡ y.children.0 → (x : Reached) → x ≡ toward m n (got (raw_of y.tree) y.next kids) → x ≡ toward m n (raw_at b N m at)
    unfolding raw_at
    onward_got n kids c x f =
        let d = reply_got here r e y q in
        f ∙ ap (λ (z : ℕ). toward m n (got (raw_of y.tree) y.next z)) c ∙ rw d

    pub onward_room : (kids : ℕ) → length b * 1 < 2 ^ 63 → kids < 4294967296 → y.next + kids < 18446744073709551616
    onward_room kids l h = let i = judged_inside b (limit_rules (limits_of N)) m at r e y q in omega arith

    pub flat_got : (x : Bool) → x ≡ not (is_subtree (raw_of y.tree)) → x ≡ is_flat (raw_at b N m at)
    unfolding is_flat raw_at
    flat_got x f = let d = reply_got here r e y q in f ∙ rw d

pub ruleset onward_cases = (onward_bad, onward_got, onward_room, flat_bad, flat_got)

-- ---- is_leaf_in

module _ (b : List ℕ) (k : ℕ) (N : Limits) where
  abbrev R : Reader Raw
  R = raw_in b k N

  abbrev L : Listing Raw
  L = listing raw_shape R

  -- the search for tree n has come to tree m, at its place
  pub record Comes (n m at : ℕ) : Type 0 where
    pub inside : m ≤ n
    pub place : at ≡ place_of raw_shape R m

  pub comes_first : (n : ℕ) → Comes n 0 0
  unfolding place_of
  comes_first n = record { inside = omega arith; place = refl }

  pub leaf_outside : (n : ℕ) → k ≤ n → false ≡ (ltb n k && not (sub raw_shape L n))
  leaf_outside n h = simp (le-ltb _ _ h)

  flat_tree : (q : Reply Raw) → is_flat q ≡ not (is_subtree (tree_of raw_shape R q))
  unfolding is_flat
  flat_tree (got t next kids) = refl
  flat_tree (bad r) = refl

  module _ (n m at : ℕ) (c : Comes n m at) where
    read_here : raw_at b N m at ≡ reading raw_shape R m
    unfolding raw_at raw_in
    read_here = ap (raw_at b N m) c.place

    -- it has found its tree
    pub leaf_found : n < k → n ≤ m → (r : Bool) → r ≡ is_flat (raw_at b N n at) → r ≡ (ltb n k && not (sub raw_shape L n))
    leaf_found h l r e =
        let i = c.inside in
        let s : m ≡ n = omega arith in
        let d : is_flat (raw_at b N n at) ≡ not (sub raw_shape L n) = subst (λ (x : ℕ). is_flat (raw_at b N x at) ≡ not (sub raw_shape L x)) s (ap is_flat read_here ∙ flat_tree (reading raw_shape R m)) in
        e ∙ d ∙ simp (lt-ltb _ _ h)

    module _ (ok : check raw_shape R ≡ passed) (h : n < k) (l : m < n) where
      abbrev Nearer : Reached → Type 0
      Nearer r = (m < r.number) × Comes n r.number r.at

      ad : Admitted raw_shape R
      ad = check_sound raw_shape R ok

      trees_are : R.trees ≡ k
      unfolding raw_in
      trees_are = refl

      within : m < R.trees
      within = let e = trees_are in omega arith

      abbrev t : Raw
      t = L.tree m

      abbrev next : ℕ
      next = place_of raw_shape R (m + 1)

      nearer : Nearer (toward m n (got t next (stored raw_shape R m)))
      unfolding toward past
      nearer = go (is_subtree t) (leb (m + 1 + count_of t) n) refl refl
        where
          go : (x y : Bool) → is_subtree t ≡ x → leb (m + 1 + count_of t) n ≡ y → Nearer (toward m n (got t next (stored raw_shape R m)))
          go false y f g = simp f (omega arith, record { inside = omega arith; place = refl })
          go true false f g = simp (f, g) (omega arith, record { inside = omega arith; place = refl })
          go true true f g =
              let i = leb-true (m + 1 + count_of t) n g in
              simp (f, g) (omega arith, record { inside = i; place = ad.honest m within f })

      module _ (r : Reached) (e : r ≡ toward m n (raw_at b N m at)) where
        there : Nearer r
        there = subst Nearer (sym (e ∙ ap (toward m n) (read_here ∙ ad.readable m within))) nearer

        pub comes_next : Comes n r.number r.at
        comes_next = there.1

        pub comes_less : n - r.number < n - m
        comes_less = let a = there.0 in let i = there.1.inside in omega arith

pub ruleset leaf_cases = (comes_first, leaf_outside, leaf_found, comes_next, comes_less)

-- ---- is_leaf

module _ (b : List ℕ) (k : ℕ) (parts symbols : List ℕ) (ok : buffer_check b k parts symbols ≡ passed) (N : Limits) (d : limits_of N ≡ own_limits (length parts / part_size) (length symbols)) where
  alike : Alike word_shape (own_reader b k parts symbols) raw_shape (raw_in b k N)
  unfolding own_reader raw_in
  alike =
      let T = own_tables parts symbols in
      let s : T.sized ≡ true = and_right (leb 1 k && leb k 1048576) T.sized (own_sound b k parts symbols ok).sized in
      raw_alike b k T (limit_rules (limits_of N)) (mode_telling (own_mode parts symbols)) s (λ n t. ap (λ (y : tables.Limits). row_eight y n t) (sym d))

  pub own_checked : check raw_shape (raw_in b k N) ≡ passed
  own_checked = sym (check_same word_shape (own_reader b k parts symbols) raw_shape (raw_in b k N) alike) ∙ ok

  pub own_leaf : (n : ℕ) (r : Bool) → r ≡ (ltb n k && not (sub raw_shape (listing raw_shape (raw_in b k N)) n)) → r ≡ is_leaf b k parts symbols n
  unfolding is_leaf
  own_leaf n r e = e ∙ ap (λ (x : Bool). ltb n k && not x) (sym (sub_same word_shape (own_reader b k parts symbols) raw_shape (raw_in b k N) alike n))

pub ruleset is_leaf_cases = (own_checked, own_leaf)
