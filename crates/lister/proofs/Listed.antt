-- How far the listing of a buffer that the check has passed has come, and one tree more.
use Prim.Native.Nat.{ℕ, zero, suc, ◌+◌, ◌≤◌, ◌<◌}
use mathlib.Core.Bool.{Bool, true, false, ◌&&◌}
use mathlib.Core.Path.{◌≡◌, refl, sym, ap, ◌∙◌, subst}
use mathlib.Core.List.{List, ◌∷◌, ◌++◌, append_assoc, append-nil}
use native.Mathlib.Omega.{arith}
use native.Mathlib.Nat.{add-zero, zero-add}
use native.Mathlib.Numerals.{add-one}
use borrow.Author.Tests.{leb-true}
use lib.Dec.{leb}
use lib.ListN.{length, replicate, length-replicate}
use Rattle.std.specs.Prelude.{Result, Ok, Err}
use Rattle.format.specs.Verdict.{passed}
use Rattle.format.specs.Reader.{Shape, Reader, got, bad}
use Rattle.format.specs.Tree.{Raw, is_subtree, count_of, tree_at}
use Rattle.format.specs.Plain.{Listing, end_of, sub}
use Rattle.format.specs.Nest.{around, Nested, still_open}
use Rattle.format.proofs.OpenEnds.{open_ends}
use Rattle.format.specs.Check.{check, place_of, reading, listing, tree_of, next_of, Admitted}
use Rattle.format.specs.Tables.{count_rules}
use Rattle.format.specs.Buffer.{raw_shape, judge, size_reader}
use Rattle.format.specs.Loose.{loose_at, beside}
use Rattle.format.specs.Lister.{line, tree_line, tree_lines}
use Rattle.format.proofs.Each.{and_left, and_right}
use Rattle.format.proofs.CursorRun.{around_here}
use Rattle.format.proofs.CheckLaw.{check_sound, next_place}
use Rattle.text.specs.Typed.{Typed}
use Rattle.text.proofs.Typed.{kept, next_inside, typed_then, typed_none, typed_as}
use Rattle.tree.specs.Raw.{raw_of}
use Rattle.decode.specs.Judge.{judged_of}
use Rattle.tree.specs.declared.raw.RawTree.{RawTree}
use Rattle.decode.specs.declared.loose.Reported.{Reported}
use Rattle.decode.proofs.JudgeUse.{told_got, told_bad}
use Rattle.lister.specs.BySizes.{sort_of, size_lines}
use Rattle.lister.specs.Ends.{push, Follows}
use Rattle.lister.specs.TreePut.{TreePut}
use Rattle.lister.specs.declared.list.Done.{Done}
use Rattle.lister.proofs.Opened.{Opened, opened_none, opened_depth, opened_leaf, opened_sub}

-- one line more, behind those before it
pub lines_more : {Tree : Type 0} (S : Shape Tree) (sort : Tree → ℕ) (R : Reader Tree) (j m : ℕ) → tree_lines S sort R (suc j) m ≡ tree_lines S sort R j m ++ tree_line S sort R (m + j)
unfolding tree_lines
lines_more S sort R zero m = append-nil (tree_line S sort R m) ∙ ap (tree_line S sort R) (sym (add-zero m))
lines_more S sort R (suc j) m =
    let e : m + 1 + j ≡ m + suc j = omega arith in
    ap (λ x. tree_line S sort R m ++ x) (lines_more S sort R j (m + 1)) ∙ sym (append_assoc (tree_line S sort R m) (tree_lines S sort R j (m + 1)) (tree_line S sort R (m + 1 + j)))
    ∙ ap (λ x. tree_line S sort R m ++ tree_lines S sort R j (m + 1) ++ tree_line S sort R x) e

pub got_bad : {A : Type 0} (t : Raw) (n k r : ℕ) → got t n k ≡ bad r → A
got_bad t n k r e = let z : ◌≡◌ {A = ℕ} 0 1 = cc in absurd (omega arith)

module _ (b : List ℕ) (k parts symbols : ℕ) where
  abbrev R : Reader Raw
  R = size_reader b k parts symbols

  abbrev L : Listing Raw
  L = listing raw_shape R

  -- the trees before n are listed; from out₀ and place at on, the run has become out and the next line goes to place next
  pub record Listed (out₀ : List ℕ) (at n first depth : ℕ) (ends : List ℕ) (next : ℕ) (out : List ℕ) : Type 0 where
    pub inside : n ≤ k
    pub place : first ≡ place_of raw_shape R n
    pub size : length ends ≡ 256
    pub few : depth ≤ 256
    pub opened : Opened raw_shape L n (open_ends ends depth)
    pub text : Typed out₀ at (tree_lines raw_shape sort_of R n 0) next out

  pub listed_none : (out₀ : List ℕ) (at : ℕ) → at ≤ length out₀ → Listed out₀ at 0 0 0 (replicate 256 0) at out₀
  unfolding place_of tree_lines open_ends
  listed_none out₀ at h =
      record { inside = omega arith; place = refl; size = length-replicate {A = ℕ} 256 0; few = omega arith; opened = opened_none raw_shape L; text = typed_none out₀ at h }

  module _ (out₀ : List ℕ) (at n first depth : ℕ) (ends : List ℕ) (next : ℕ) (out : List ℕ) (l : Listed out₀ at n first depth ends next out) where
    pub listed_inside : next ≤ length out
    listed_inside = next_inside out₀ out at next (tree_lines raw_shape sort_of R n 0) l.text

    pub listed_kept : length out ≡ length out₀
    listed_kept = kept out₀ out at next (tree_lines raw_shape sort_of R n 0) l.text

    pub listed_few : depth ≤ 256
    listed_few = l.few

    pub listed_all : k ≤ n → Typed out₀ at (size_lines b k parts symbols) next out
    unfolding size_lines
    listed_all h =
        let i = l.inside in
        let e : n ≡ k = omega arith in
        typed_as out₀ out at next _ _ (ap (λ x. tree_lines raw_shape sort_of R x 0) e) l.text

    module _ (ok : check raw_shape R ≡ passed) (h : n < k) (r : Result (Reported RawTree) ℕ)
        (e : judged_of r ≡ beside (loose_at b first) (judge (λ n t. t) (count_rules parts symbols) n first (tree_at b first))) where
      admitted : Admitted raw_shape R
      admitted = check_sound raw_shape R ok

      nested : Nested raw_shape L
      nested = admitted.nested

      -- no tree is refused
      pub listed_bad : (j : ℕ) → r ≡ Err j → Typed out₀ at (size_lines b k parts symbols) next out
      unfolding size_reader
      listed_bad j q =
          let d = told_bad (loose_at b first) _ r e j q in
          got_bad _ _ _ j (sym (admitted.readable n h) ∙ sym (ap (λ x. R.read n x) l.place) ∙ d)

      module _ (y : Reported RawTree) (q : r ≡ Ok y) where
        abbrev t : Raw
        t = raw_of y.tree

        seen : reading raw_shape R n ≡ got t y.next y.children.0
        unfolding size_reader
        seen =
            sym (ap (λ x. R.read n x) l.place) ∙ told_got (loose_at b first) _ r e y q

        tree_is : L.tree n ≡ t
        tree_is = ap (tree_of raw_shape R) seen

        sub_is : sub raw_shape L n ≡ is_subtree t
        sub_is = ap is_subtree tree_is

        end_is : end_of raw_shape L n ≡ n + 1 + count_of t
        end_is = ap (λ (x : Raw). n + 1 + count_of x) tree_is

        abbrev around_n : ℕ
        around_n = length (still_open n (open_ends ends depth))

        around_is : around_n ≡ around raw_shape L n n
        around_is = opened_depth raw_shape L n (open_ends ends depth) l.opened

        room : is_subtree t ≡ true → around_n < 256
        unfolding size_reader
        room f =
            let s = nested.shallow n h in
            let s' : around raw_shape L n (suc n) ≤ 256 = rw add-one at s in
            let u = around_here raw_shape L n n (sub_is ∙ f) (omega arith) in
            let z = around_is in
            omega arith

        trees_few : k ≤ 1048576
        unfolding size_reader
        trees_few = leb-true k 1048576 (and_right (leb 1 k) (leb k 1048576) (and_left (leb 1 k && leb k 1048576) _ admitted.sized))

        pub listed_follows : Follows ends depth n t
        unfolding size_reader
        listed_follows =
            record {
              size = l.size;
              few = l.few;
              room = room;
              end = λ s.
                  let i = nested.in_list n h (sub_is ∙ s) in
                  let j = trees_few in
                  let z = end_is in
                  omega arith;
            }

        opened_next : (x : Bool) → is_subtree t ≡ x → Opened raw_shape L (n + 1) (push n t (still_open n (open_ends ends depth)))
        unfolding size_reader
        opened_next true f =
            simp f (subst (λ (z : ℕ). Opened raw_shape L (n + 1) (z ∷ still_open n (open_ends ends depth))) end_is
            (opened_sub raw_shape L n (open_ends ends depth) l.opened nested h (sub_is ∙ f)))
        opened_next false f = simp f (opened_leaf raw_shape L n (open_ends ends depth) l.opened (sub_is ∙ f))

        line_is : line n first (around_n + 1) (sort_of t) ≡ tree_line raw_shape sort_of R n
        unfolding tree_line
        line_is = rw (l.place, around_is, ← tree_is)

        lines_are : tree_lines raw_shape sort_of R n 0 ++ line n first (around_n + 1) (sort_of t) ≡ tree_lines raw_shape sort_of R (n + 1) 0
        lines_are =
            ap (λ x. tree_lines raw_shape sort_of R n 0 ++ x) (line_is ∙ ap (tree_line raw_shape sort_of R) (sym (zero-add n)))
            ∙ sym (lines_more raw_shape sort_of R n 0) ∙ ap (λ x. tree_lines raw_shape sort_of R x 0) (sym (add-one n))

        pub listed_next : (d : Done) (out' ends' : List ℕ) → TreePut out next ends depth n first t d out' ends' → Listed out₀ at (n + 1) y.next d.depth ends' d.next out'
        listed_next d out' ends' u =
            let s = typed_then out₀ out at next (tree_lines raw_shape sort_of R n 0) l.text out' d.next (line n first (around_n + 1) (sort_of t)) u.text in
            record {
              inside = omega arith;
              place = sym (next_place raw_shape R n ∙ ap next_of seen);
              size = u.size;
              few = u.few;
              opened = subst (Opened raw_shape L (n + 1)) (sym u.left) (opened_next (is_subtree t) refl);
              text = typed_as out₀ out' at d.next _ _ lines_are s;
            }
