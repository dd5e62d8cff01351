-- A stack of ends, closed and opened from tree to tree of a nested list, holds the subtrees around each tree.
use Prim.Native.Nat.{ℕ, zero, suc, ◌+◌, ◌≤◌, ◌<◌}
use mathlib.Core.Bool.{Bool, true, false, ◌&&◌}
use mathlib.Core.Path.{◌≡◌, refl, sym, ap, ◌∙◌}
use mathlib.Core.List.{List, [], ◌∷◌}
use native.Mathlib.Omega.{arith}
use native.Mathlib.Numerals.{add-one}
use borrow.Author.Tests.{lt-ltb, le-ltb, ltb-true, ltb-false, leb-true, leb-false}
use lib.Dec.{ltb, leb}
use lib.ListN.{length}
use Rattle.format.specs.Reader.{Shape}
use Rattle.format.specs.Plain.{Listing, end_of, sub}
use Rattle.format.specs.Nest.{around, Nested, still_open}
use Rattle.format.proofs.CursorRun.{around_here}
use Rattle.format.proofs.NestLaw.{still_still, still_above, still_below, around_not}

module _ {Tree : Type 0} (S : Shape Tree) (L : Listing Tree) where
  -- before tree n, and for every tree from there on: the ends that lie behind it are as many as the subtrees around it
  pub record Opened (n : ℕ) (es : List ℕ) : Type 0 where
    pub counts : (q : ℕ) → n ≤ q → around S L q n ≡ length (still_open q es)

  pub opened_none : Opened 0 []
  unfolding around still_open
  opened_none = record { counts = λ q h. refl }

  -- the subtrees around a subtree are around what is in it
  around_in : Nested S L → (n q m : ℕ) → n < L.k → sub S L n ≡ true → n ≤ q → q < end_of S L n → m ≤ n → around S L q m ≡ around S L n m
  unfolding around
  around_in ne n q zero h e l g i = refl
  around_in ne n q (suc m) h e l g i = go _ _ refl refl (around_in ne n q m h e l g (omega arith))
    where
      go : (x y : Bool) → sub S L m ≡ x → ltb n (end_of S L m) ≡ y → around S L q m ≡ around S L n m → around S L q (suc m) ≡ around S L n (suc m)
      go false y f d rec = simp (f, rec)
      go true true f d rec =
          let a = ltb-true n (end_of S L m) d in
          let o = ne.in_other m n (omega arith) h a f e in
          let t = lt-ltb q (end_of S L m) (omega arith) in
          simp (f, d, t, rec)
      go true false f d rec =
          let a = ltb-false n (end_of S L m) d in
          let t = le-ltb q (end_of S L m) (omega arith) in
          simp (f, d, t, rec)

  module _ (n : ℕ) (es : List ℕ) (o : Opened n es) where
    -- the subtrees around tree n
    pub opened_depth : length (still_open n es) ≡ around S L n n
    opened_depth = sym (o.counts n (omega arith))

    later : (q : ℕ) → n + 1 ≤ q → around S L q n ≡ length (still_open q (still_open n es))
    later q h = o.counts q (omega arith) ∙ sym (ap length (still_still n q (omega arith) es))

    pub opened_leaf : sub S L n ≡ false → Opened (n + 1) (still_open n es)
    opened_leaf f =
        record {
          counts = λ q h.
              let a : (sub S L n && ltb q (end_of S L n)) ≡ false = simp f in
              ap (around S L q) (add-one n) ∙ around_not S L q n a ∙ later q h;
        }

    pub opened_sub : Nested S L → n < L.k → sub S L n ≡ true → Opened (n + 1) (end_of S L n ∷ still_open n es)
    opened_sub ne h f = record { counts = λ q l. ap (around S L q) (add-one n) ∙ go q l (leb (end_of S L n) q) refl }
      where
        go : (q : ℕ) → n + 1 ≤ q → (x : Bool) → leb (end_of S L n) q ≡ x → around S L q (suc n) ≡ length (still_open q (end_of S L n ∷ still_open n es))
        go q l true t =
            let g = leb-true (end_of S L n) q t in
            let u = le-ltb q (end_of S L n) g in
            let a : (sub S L n && ltb q (end_of S L n)) ≡ false = simp (f, u) in
            around_not S L q n a ∙ later q l ∙ sym (ap length (still_below q (end_of S L n) (still_open n es) g))
        go q l false t =
            let g = leb-false (end_of S L n) q t in
            let a = around_here S L q n f g in
            let b = around_in ne n q n h f (omega arith) g (omega arith) in
            let c = opened_depth in
            rw (still_above q (end_of S L n) (still_open n es) g) (omega arith)
