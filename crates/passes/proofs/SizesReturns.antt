-- The work words: one law for each return and each turn of a loop of src/sizes.rt.
use Prim.Native.Nat.{ℕ, ◌+◌, ◌*◌, ◌-◌, ◌≤◌, ◌<◌}
use mathlib.Core.Bool.{Bool, true, false}
use mathlib.Core.Path.{◌≡◌, refl, sym, ap, ◌∙◌}
use mathlib.Core.List.{List}
use native.Mathlib.Omega.{arith}
use borrow.Author.Tests.{ne_eqb, eqb-true, eqb-false}
use lib.Dec.{eqb}
use lib.ListN.{length, get_or, set, length-set}
use lib.Seq.{get_or-set_same, get_or-set_other}
use Rattle.format.specs.Tree.{Raw, count_of}
use Rattle.format.specs.Write.{tree_bytes}
use Rattle.format.specs.Width.{tree_size}
use Rattle.format.specs.Tables.{Mode}
use Rattle.format.specs.WordList.{word_of, raw_from, list_count}
use Rattle.format.specs.Writer.{raw_of}
use Rattle.format.proofs.WriteSize.{tree_size_lem}
use Rattle.tree.specs.declared.raw.ChildrenBytes.{ChildrenBytes}
use Rattle.encode.proofs.EncodeUse.{below_root_lem}
use Rattle.passes.specs.Tail.{size_from, kids_of, bytes_at}
use Rattle.passes.specs.Run.{count_in, children_in, Spanned, Sized, Beyond}
use Rattle.passes.specs.Passed.{Passed}
use Rattle.passes.proofs.TailLaw.{size_is, size_falls, size_most, size_end}
use Rattle.passes.proofs.HoldLaw.{some_trees_lem, most_trees_lem, low_ends, top_size}
use Rattle.passes.proofs.RunLaw.{first_word}

-- ---- the descendants of a tree

-- they do not turn on its indices
count_any : (o c y : ℕ) (w : ℕ → ℕ) → count_of (raw_from o c y w) ≡ count_of (raw_from 0 0 0 w)
unfolding raw_from
count_any o c y w = go (eqb (w 0) 0) (eqb (w 0) 1) (eqb (w 0) 2) refl refl refl
  where
    go : (x₀ x₁ x₂ : Bool) → eqb (w 0) 0 ≡ x₀ → eqb (w 0) 1 ≡ x₁ → eqb (w 0) 2 ≡ x₂ → count_of (raw_from o c y w) ≡ count_of (raw_from 0 0 0 w)
    go true x₁ x₂ e₀ e₁ e₂ = simp e₀
    go false true x₂ e₀ e₁ e₂ = simp (e₀, e₁)
    go false false true e₀ e₁ e₂ = simp (e₀, e₁, e₂)
    go false false false e₀ e₁ e₂ = simp (e₀, e₁, e₂)

count_leaf : (w : ℕ → ℕ) → w 0 < 3 → count_of (raw_from 0 0 0 w) ≡ 0
unfolding raw_from
count_leaf w h = go (eqb (w 0) 0) (eqb (w 0) 1) (eqb (w 0) 2) refl refl refl
  where
    go : (x₀ x₁ x₂ : Bool) → eqb (w 0) 0 ≡ x₀ → eqb (w 0) 1 ≡ x₁ → eqb (w 0) 2 ≡ x₂ → count_of (raw_from 0 0 0 w) ≡ 0
    go true x₁ x₂ e₀ e₁ e₂ = simp e₀
    go false true x₂ e₀ e₁ e₂ = simp (e₀, e₁)
    go false false true e₀ e₁ e₂ = simp (e₀, e₁, e₂)
    go false false false e₀ e₁ e₂ =
        let a = eqb-false (w 0) 0 e₀ in
        let b = eqb-false (w 0) 1 e₁ in
        let c = eqb-false (w 0) 2 e₂ in
        absurd (omega arith)

count_subtree : (w : ℕ → ℕ) → 3 ≤ w 0 → count_of (raw_from 0 0 0 w) ≡ w 1
unfolding raw_from
count_subtree w h =
    let a = ne_eqb (w 0) 0 (λ q. absurd (omega arith)) in
    let b = ne_eqb (w 0) 1 (λ q. absurd (omega arith)) in
    let c = ne_eqb (w 0) 2 (λ q. absurd (omega arith)) in
    simp (a, b, c)

module _ (l : List ℕ) (n : ℕ) where
  leaf_count : get_or l (tree_size * n) 0 < 3 → count_in l n ≡ 0
  unfolding count_in
  leaf_count h = let e = first_word l n in count_leaf (word_of l n) (omega arith)

  subtree_count : 3 ≤ get_or l (tree_size * n) 0 → count_in l n ≡ get_or l (tree_size * n + 1) 0
  unfolding count_in
  subtree_count h = let e = first_word l n in count_subtree (word_of l n) (omega arith)

bytes_eq : (a b : ℕ) → a ≡ b → ◌≡◌ {A = ChildrenBytes} (record { 0 = a }) (record { 0 = b })
bytes_eq a b e = rw e

module _ (l : List ℕ) (n : ℕ) (work : List ℕ) where
  pub leaf_children : get_or l (tree_size * n) 0 < 3 → ◌≡◌ {A = ChildrenBytes} (record { 0 = 0 }) (record { 0 = children_in l n work })
  unfolding children_in
  leaf_children h =
      let e = leaf_count l n h in
      let f : n + 1 + count_in l n ≡ n + 1 = omega arith in
      bytes_eq 0 (get_or work (n + 1) 0 - get_or work (n + 1 + count_in l n) 0) (rw f (omega arith))

  module _ (h : 3 ≤ get_or l (tree_size * n) 0) (x : ℕ) (e : x ≡ get_or l (tree_size * n + 1) 0) where
    end_is : n + 1 + count_in l n ≡ n + 1 + x
    end_is = let f = subtree_count l n h in omega arith

    pub end_within : Spanned l n work → n + 1 + x < length work
    end_within s = let a = s.room in let f = end_is in omega arith

    pub end_falls : Spanned l n work → get_or work (n + 1 + x) 0 ≤ get_or work (n + 1) 0
    end_falls s = rw end_is at s.falls

    pub subtree_children : ◌≡◌ {A = ChildrenBytes} (record { 0 = get_or work (n + 1) 0 - get_or work (n + 1 + x) 0 }) (record { 0 = children_in l n work })
    unfolding children_in
    subtree_children = rw end_is

pub ruleset children_cases = (leaf_children, end_within, end_falls, subtree_children)

-- ---- the work words of a run

count_is : (M : Mode) (l : List ℕ) (n : ℕ) → count_in l n ≡ count_of (raw_of M l n)
unfolding count_in
count_is M l n = go (eqb n 0) refl
  where
    go : (b : Bool) → eqb n 0 ≡ b → count_of (raw_from 0 0 0 (word_of l n)) ≡ count_of (raw_of M l n)
    go true z = simp z (sym (count_any _ _ _ (word_of l n)))
    go false z = simp z (sym (count_any _ _ _ (word_of l n)))

module _ (M : Mode) (l : List ℕ) (ok : Passed M l) where
  -- tree n, below the root, by the words behind it
  module _ (n : ℕ) (m : 1 ≤ n) (work : List ℕ) (w : Sized M l (n + 1) work) (h : n < list_count l) where
    end_in : n + 1 + count_in l n ≤ list_count l
    end_in = let e = count_is M l n in let a = low_ends M l ok n m h in omega arith

    word_after : get_or work (n + 1) 0 ≡ size_from M l (n + 1)
    word_after = w.at (n + 1) (omega arith) (omega arith)

    word_end : get_or work (n + 1 + count_in l n) 0 ≡ size_from M l (n + 1 + count_in l n)
    word_end = w.at (n + 1 + count_in l n) (omega arith) end_in

    pub spanned : Spanned l n work
    spanned =
        let a = end_in in
        let b = w.room in
        let c = word_after in
        let d = word_end in
        let e = size_falls M l (n + 1) (n + 1 + count_in l n) (omega arith) a in
        record { tree = h; many = most_trees_lem M l ok; room = omega arith; falls = omega arith }

    pub children_are : children_in l n work ≡ kids_of M l n
    unfolding children_in kids_of
    children_are = rw (word_after, word_end, count_is M l n)

    -- its own word
    module _ (t : Raw) (r : t ≡ raw_of M l n) (k : ChildrenBytes) (f : k ≡ record { 0 = children_in l n work }) (x : ℕ) (e : x ≡ length (tree_bytes 1 t k.0)) where
      pub word_fits : x + get_or work (n + 1) 0 < 4294967296
      word_fits =
          let a = (tree_size_lem 1 t k.0).most in
          let d = word_after in
          let c = size_most M l (n + 1) (omega arith) in
          let g = most_trees_lem M l ok in
          omega arith

      word_is : x + get_or work (n + 1) 0 ≡ size_from M l n
      unfolding bytes_at
      word_is =
          let c : k.0 ≡ kids_of M l n = ap (λ (z : ChildrenBytes). z.0) f ∙ children_are in
          let s : x ≡ length (bytes_at M l n) = e ∙ rw (r, c) (ap length (sym (below_root_lem n (raw_of M l n) (kids_of M l n) (λ q. absurd (omega arith))))) in
          let g = size_is M l n h in
          let j = word_after in
          omega arith

      pub word_stored : Sized M l n (set work n (x + get_or work (n + 1) 0))
      word_stored =
          let a = w.room in
          record {
            room = rw (length-set work n (x + get_or work (n + 1) 0)) a;
            at = λ i g j. go i g j (eqb i n) refl;
          }
        where
          go : (i : ℕ) → n ≤ i → i ≤ list_count l → (b : Bool) → eqb i n ≡ b → get_or (set work n (x + get_or work (n + 1) 0)) i 0 ≡ size_from M l i
          go i g j true z =
              let q = eqb-true i n z in
              let a = w.room in
              rw q (get_or-set_same work n (x + get_or work (n + 1) 0) 0 (omega arith) ∙ word_is)
          go i g j false z =
              let q = eqb-false i n z in
              get_or-set_other work n i (x + get_or work (n + 1) 0) 0 q ∙ w.at i (omega arith) j

-- the two words are there
pub word_room : (M : Mode) (l : List ℕ) (n m : ℕ) (work : List ℕ) → Sized M l m work → n < list_count l → n < length work
word_room M l n m work w h = let a = w.room in omega arith

pub next_room : (M : Mode) (l : List ℕ) (n m : ℕ) (work : List ℕ) → Sized M l m work → n < list_count l → n + 1 < length work
next_room M l n m work w h = let a = w.room in omega arith

pub size_fits : (t : Raw) (k x : ℕ) → x ≡ length (tree_bytes 1 t k) → x < 4294967296
size_fits t k x e = let a = (tree_size_lem 1 t k).most in omega arith

pub beyond_one : (l work : List ℕ) (i v : ℕ) → i < list_count l → Beyond l (set work i v) work
beyond_one l work i v h = record { same = λ j g. get_or-set_other work i j v 0 (λ q. absurd (omega arith)); long = length-set work i v }

pub ruleset size_at_cases = (word_room, next_room, size_fits, spanned, word_fits, word_stored, beyond_one)

-- a run that is done
pub sized_down : (M : Mode) (l : List ℕ) (from n : ℕ) (work : List ℕ) → Sized M l n work → n ≤ from → Sized M l from work
sized_down M l from n work w h = record { room = w.room; at = λ i g k. w.at i (omega arith) k }

-- ---- the first and the last word

module _ (M : Mode) (l : List ℕ) (ok : Passed M l) (work : List ℕ) where
  pub last_word : list_count l < length work → Sized M l (list_count l) (set work (list_count l) 0)
  last_word h =
      record {
        room = rw (length-set work (list_count l) 0) h;
        at = λ i g k.
            let e : i ≡ list_count l = omega arith in
            rw e (get_or-set_same work (list_count l) 0 0 h ∙ sym (size_end M l));
      }

  module _ (w : Sized M l 1 work) where
    one : 1 ≤ list_count l
    one = some_trees_lem M l ok

    pub root_room : 1 < length work
    root_room = let a = one in let b = w.room in omega arith

    pub root_fits : 33 + get_or work 1 0 < 4294967296
    root_fits =
        let a = w.at 1 (omega arith) one in
        let b = size_most M l 1 one in
        let c = most_trees_lem M l ok in
        omega arith

    pub root_word : Sized M l 0 (set work 0 (33 + get_or work 1 0))
    root_word =
        let a = w.room in
        record {
          room = rw (length-set work 0 (33 + get_or work 1 0)) a;
          at = λ i g k. go i k (eqb i 0) refl;
        }
      where
        go : (i : ℕ) → i ≤ list_count l → (b : Bool) → eqb i 0 ≡ b → get_or (set work 0 (33 + get_or work 1 0)) i 0 ≡ size_from M l i
        go i k true z =
            let q = eqb-true i 0 z in
            let a = w.room in
            let c = size_is M l 0 one in
            let d = top_size M l ok in
            let e = w.at 1 (omega arith) one in
            rw q (get_or-set_same work 0 (33 + get_or work 1 0) 0 (omega arith) ∙ sum c d e)
          where
            sum : size_from M l 0 ≡ length (bytes_at M l 0) + size_from M l 1 → length (bytes_at M l 0) ≡ 33 → get_or work 1 0 ≡ size_from M l 1 → 33 + get_or work 1 0 ≡ size_from M l 0
            sum c d e = omega arith
        go i k false z =
            let q = eqb-false i 0 z in
            get_or-set_other work 0 i (33 + get_or work 1 0) 0 q ∙ w.at i (omega arith) k

pub beyond_first : (l work : List ℕ) (v : ℕ) → Beyond l (set work 0 v) work
beyond_first l work v =
    record {
      same = λ j g. get_or-set_other work 0 j v 0 (λ q. absurd (omega arith));
      long = length-set work 0 v;
    }

-- word behind the last tree, words of the trees, word of the root
module _ (l work work₁ work₂ : List ℕ) where
  pub beyond_filled : Beyond l work₂ work₁ → Beyond l work₁ (set work (list_count l) 0) → Beyond l work₂ work
  beyond_filled a b =
      record {
        same = λ j g. a.same j g ∙ b.same j g ∙ get_or-set_other work (list_count l) j 0 0 (λ q. absurd (omega arith));
        long = a.long ∙ b.long ∙ length-set work (list_count l) 0;
      }

  pub filled_long : Beyond l work₂ work₁ → Beyond l work₁ (set work (list_count l) 0) → length work₂ ≡ length work
  filled_long a b = a.long ∙ b.long ∙ length-set work (list_count l) 0

pub ruleset root_word_cases = (root_room, root_fits, root_word, beyond_first)

pub ruleset fill_cases = (last_word, beyond_filled, filled_long)
