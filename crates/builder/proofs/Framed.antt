-- Frames: the trees of a stack of frames, the numbers of its open subtrees, and what adding, closing and cutting make of them.
use Prim.Native.Nat.{ℕ, zero, suc, ◌+◌, ◌-◌, ◌≤◌, ◌<◌}
use mathlib.Core.Bool.{Bool, true, false, not}
use mathlib.Core.Path.{◌≡◌, refl, sym, ap, ◌∙◌, subst}
use mathlib.Core.List.{List, [], ◌∷◌, ◌++◌, append_assoc, append-nil}
use native.Mathlib.Omega.{arith}
use borrow.Author.Tests.{not-true, le-leb, lt-leb, lt-ltb, le-ltb, eq-eqb, ne_eqb, eqb-true, eqb-false, ltb-true, ltb-false, leb-true, leb-false}
use lib.Dec.{eqb, ltb, leb}
use lib.ListN.{length, take, get_or, length-append, get_or-append}
use lib.Seq.{get_or-append-add, get_or-append_seam, take-append-add, take-append-le, take_all}
use Rattle.format.specs.WordList.{tree_list, raw_from, word_fields}
use Rattle.format.specs.Part.{WordSpan}
use Rattle.format.specs.Root.{range_fits}
use Rattle.format.specs.Builder.{subtree_words, word_in, leaf_words, leaf_fits, open_before, is_among}
use Rattle.builder.specs.Frames.{Trees, Frame, Model, whole, begun, with_made, with_closing, laid, added, cut}
use Rattle.format.proofs.Each.{and_left, and_right, true_false}
use Rattle.builder.proofs.Trees.{Sized, sized_append}
use Rattle.builder.proofs.Forest.{Fit, is_sub, count_in, Forest, none, leaf, tree, Ends, forest_sized, forest_append, forest_ends, forest_cut}

-- ---- what holds of a frame, and of a stack of them

pub record FrameFit (d : ℕ) (f : Frame) : Type 0 where
  pub kind : leb f.kind 3 ≡ true
  pub opening : range_fits f.opening ≡ true
  pub closing : range_fits f.closing ≡ true
  pub forest : Forest d f.made

-- d more may nest in the last frame: 255 in the root
abbrev pub Well : Frame → List Frame → ℕ → Type 0
Well r [] d = (d ≡ 255) × FrameFit d r
Well r (f ∷ fs) d = FrameFit d f × Well r fs (suc d)

pub subtree_fit : (n k : ℕ) (o c : WordSpan) → leb k 3 ≡ true → range_fits o ≡ true → range_fits c ≡ true → Fit (subtree_words n k o c)
unfolding raw_from
subtree_fit n k o c x y z = record { size = refl; fields = simp (x, y, z) }

-- row 2 looks at the words of the tree alone
pub fields_same : (w : ℕ → ℕ) → word_fields (word_in (tree_list w)) ≡ word_fields w
unfolding raw_from
fields_same w = refl

pub leaf_fit : (d : ℕ) (w : List ℕ) → leaf_fits w ≡ true → Forest d (leaf_words w ∷ [])
leaf_fit d w h =
    let s = and_left (not (eqb (word_in w 0) 3)) (word_fields (word_in w)) h in
    let q = and_right (not (eqb (word_in w 0) 3)) (word_fields (word_in w)) h in
    leaf (record { size = refl; fields = fields_same (word_in w) ∙ q }) (not-true (eqb (word_in w 0) 3) s) none

begun_fit : (d : ℕ) (f : Frame) → FrameFit d f → Sized (begun f)
begun_fit d f h = (refl, forest_sized h.forest)

pub laid_sized : (r : Frame) (fs : List Frame) (d : ℕ) → Well r fs d → Sized (laid r fs)
unfolding laid
laid_sized r [] d w = begun_fit d r w.1
laid_sized r (f ∷ fs) d w = sized_append (laid r fs) (begun f) (laid_sized r fs (suc d) w.1) (begun_fit d f w.0)

pub laid_some : (r : Frame) (fs : List Frame) → 1 ≤ length (laid r fs)
unfolding laid
laid_some r [] = omega arith
laid_some r (f ∷ fs) = let a = length-append (laid r fs) (begun f) in omega arith

pub laid_more : (r f : Frame) (fs : List Frame) → length (laid r (f ∷ fs)) ≡ length (laid r fs) + suc (length f.made)
unfolding laid
laid_more r f fs = length-append (laid r fs) (begun f)

pub well_deep : (r : Frame) (fs : List Frame) (d : ℕ) → Well r fs d → d + length fs ≡ 255
well_deep r [] d w = let a = w.0 in omega arith
well_deep r (f ∷ fs) d w = let a = well_deep r fs (suc d) w.1 in omega arith

-- ---- the numbers of the open subtrees, the last opened first

abbrev pub numbers : Frame → List Frame → List ℕ
numbers r [] = []
numbers r (f ∷ fs) = length (laid r fs) ∷ numbers r fs

pub length_numbers : (r : Frame) (fs : List Frame) → length (numbers r fs) ≡ length fs
length_numbers r [] = refl
length_numbers r (f ∷ fs) = ap suc (length_numbers r fs)

-- all below i
abbrev pub Below : ℕ → List ℕ → Type 0
Below i [] = Unit {0}
Below i (m ∷ ms) = (m < i) × Below i ms

pub below_more : (i j : ℕ) (ms : List ℕ) → i ≤ j → Below i ms → Below j ms
below_more i j [] h b = tt
below_more i j (m ∷ ms) h b = let x = b.0 in (omega arith, below_more i j ms h b.1)

pub numbers_below : (r : Frame) (fs : List Frame) → Below (length (laid r fs)) (numbers r fs)
numbers_below r [] = tt
numbers_below r (f ∷ fs) =
    let a = laid_more r f fs in
    (omega arith, below_more (length (laid r fs)) (length (laid r (f ∷ fs))) (numbers r fs) (omega arith) (numbers_below r fs))

pub below_among : (i : ℕ) (ms : List ℕ) → Below i ms → is_among i ms ≡ false
unfolding is_among
below_among i [] b = refl
below_among i (m ∷ ms) b =
    let x = b.0 in
    let e = ne_eqb i m (omega arith) in
    simp e (below_among i ms b.1)

among_other : (i m : ℕ) (ms : List ℕ) → i < m → is_among i (m ∷ ms) ≡ is_among i ms
unfolding is_among
among_other i m ms h = let e = ne_eqb i m (omega arith) in simp e

among_head : (i m : ℕ) (ms : List ℕ) → i ≡ m → is_among i (m ∷ ms) ≡ true
unfolding is_among
among_head i m ms h = let e = eq-eqb i m h in simp e

pub all_before : (n : ℕ) (ms : List ℕ) → Below n ms → open_before n ms ≡ ms
unfolding open_before
all_before n [] b = refl
all_before n (m ∷ ms) b =
    let e = lt-ltb m n b.0 in
    simp e (ap (λ x. m ∷ x) (all_before n ms b.1))

-- ---- trees below and in the last frame

laid_below : (r f : Frame) (fs : List Frame) (i : ℕ) → i < length (laid r fs) → get_or (laid r (f ∷ fs)) i [] ≡ get_or (laid r fs) i []
unfolding laid
laid_below r f fs i h = get_or-append (laid r fs) (begun f) [] i h

laid_made : (r f : Frame) (fs : List Frame) (j : ℕ) → get_or (laid r (f ∷ fs)) (length (laid r fs) + suc j) [] ≡ get_or f.made j []
unfolding laid
laid_made r f fs j = get_or-append-add (laid r fs) (begun f) (suc j) []

pub laid_head : (r f : Frame) (fs : List Frame) → get_or (laid r (f ∷ fs)) (length (laid r fs)) [] ≡ subtree_words 0 f.kind f.opening f.closing
unfolding laid
laid_head r f fs = get_or-append_seam (laid r fs) (subtree_words 0 f.kind f.opening f.closing) f.made []

pub laid_root : (r : Frame) (fs : List Frame) → get_or (laid r fs) 0 [] ≡ subtree_words 0 r.kind r.opening r.closing
unfolding laid
laid_root r [] = refl
laid_root r (f ∷ fs) = laid_below r f fs 0 (laid_some r fs) ∙ laid_root r fs

-- closed subtrees, those that are not among the open ones, end at n or before
abbrev pub Clear : ℕ → Frame → List Frame → Type 0
Clear n r fs =
    (i : ℕ) → 1 ≤ i → i < n → is_sub (get_or (laid r fs) i []) ≡ true → is_among i (numbers r fs) ≡ false → i + 1 + count_in (get_or (laid r fs) i []) ≤ n

ends_step : (r f : Frame) (fs : List Frame) → Ends (length f.made) f.made → Clear (length (laid r fs)) r fs → Clear (length (laid r (f ∷ fs))) r (f ∷ fs)
ends_step r f fs en rec i p h q a = go (ltb i (length (laid r fs))) (eqb i (length (laid r fs))) refl refl
  where
    m : length (laid r (f ∷ fs)) ≡ length (laid r fs) + suc (length f.made)
    m = laid_more r f fs

    go : (x y : Bool) → ltb i (length (laid r fs)) ≡ x → eqb i (length (laid r fs)) ≡ y → i + 1 + count_in (get_or (laid r (f ∷ fs)) i []) ≤ length (laid r (f ∷ fs))
    go true y s t =
        let l = ltb-true i (length (laid r fs)) s in
        let e = laid_below r f fs i l in
        let x = rec i p l (ap is_sub (sym e) ∙ q) (sym (among_other i (length (laid r fs)) (numbers r fs) l) ∙ a) in
        rw e (omega (arith, m))
    go false true s t = true_false _ (among_head i (length (laid r fs)) (numbers r fs) (eqb-true i (length (laid r fs)) t)) a
    go false false s t =
        let l = ltb-false i (length (laid r fs)) s in
        let o = eqb-false i (length (laid r fs)) t in
        let j : ℕ = i - suc (length (laid r fs)) in
        let k : i ≡ length (laid r fs) + suc j = omega arith in
        let e : get_or (laid r (f ∷ fs)) i [] ≡ get_or f.made j [] = ap (λ z. get_or (laid r (f ∷ fs)) z []) k ∙ laid_made r f fs j in
        let x = en j (omega (arith, m)) (ap is_sub (sym e) ∙ q) in
        rw e (omega (arith, m))

-- a subtree that is not among the open ones ends within what is there
pub laid_ends : (r : Frame) (fs : List Frame) (d : ℕ) → Well r fs d → Clear (length (laid r fs)) r fs
unfolding laid
laid_ends r [] d w zero p h q a = absurd (omega arith)
laid_ends r [] d w (suc i) p h q a = let x = forest_ends w.1.forest i (omega arith) q in omega arith
laid_ends r (f ∷ fs) d w i p h q a = ends_step r f fs (forest_ends w.0.forest) (laid_ends r fs (suc d) w.1) i p h q a

-- ---- trees added to the last frame

pub added_laid : (ts : Trees) (r : Frame) (fs : List Frame) → laid (added ts r fs).root (added ts r fs).frames ≡ laid r fs ++ ts
unfolding laid
added_laid ts r [] = refl
added_laid ts r (f ∷ fs) = sym (append_assoc (laid r fs) (begun f) ts)

pub added_numbers : (ts : Trees) (r : Frame) (fs : List Frame) → numbers (added ts r fs).root (added ts r fs).frames ≡ numbers r fs
added_numbers ts r [] = refl
added_numbers ts r (f ∷ fs) = refl

frame_added : (d : ℕ) (f : Frame) (ts : Trees) → FrameFit d f → Forest d ts → FrameFit d (with_made f (f.made ++ ts))
frame_added d f ts h g = record { kind = h.kind; opening = h.opening; closing = h.closing; forest = forest_append h.forest g }

pub added_well : (ts : Trees) (r : Frame) (fs : List Frame) (d : ℕ) → Well r fs d → Forest d ts → Well (added ts r fs).root (added ts r fs).frames d
added_well ts r [] d w g = (w.0, frame_added d r ts w.1 g)
added_well ts r (f ∷ fs) d w g = (frame_added d f ts w.0 g, w.1)

-- ---- a frame is closed

pub closed_forest : (d : ℕ) (f : Frame) (s : WordSpan) → FrameFit d f → range_fits s ≡ true → Forest (suc d) (whole (with_closing f s))
closed_forest d f s h q =
    tree (subtree_fit (length f.made) f.kind f.opening s h.kind h.opening q) refl refl (sym (append-nil f.made)) h.forest none

-- ---- the first n trees

cut_in : (n : ℕ) (r f : Frame) (fs : List Frame) → n ≤ length (laid r fs) → cut n r (f ∷ fs) ≡ cut n r fs
unfolding cut
cut_in n r f fs h = let e = le-leb n (length (laid r fs)) h in simp e

cut_here : (n : ℕ) (r f : Frame) (fs : List Frame) → length (laid r fs) < n
    → cut n r (f ∷ fs) ≡ record { root = r; frames = with_made f (take (n - (length (laid r fs) + 1)) f.made) ∷ fs }
unfolding cut
cut_here n r f fs h = let e = lt-leb n (length (laid r fs)) h in simp e

-- n at or above all that is there changes nothing
pub cut_over : (n : ℕ) (r : Frame) (fs : List Frame) → length (laid r fs) ≤ n → cut n r fs ≡ record { root = r; frames = fs }
unfolding cut laid
cut_over n r [] h = ap (λ ts. record { root = with_made r ts; frames = [] }) (take_all (n - 1) r.made (omega arith))
cut_over n r (f ∷ fs) h =
    let m = laid_more r f fs in
    let e = take_all (n - (length (laid r fs) + 1)) f.made (omega arith) in
    cut_here n r f fs (omega arith) ∙ ap (λ ts. record { root = r; frames = with_made f ts ∷ fs }) e

-- what is cut, by its trees, its open numbers and its frames
pub record Cut (n : ℕ) (r : Frame) (fs : List Frame) (m : Model) : Type 0 where
  pub trees : laid m.root m.frames ≡ take n (laid r fs)
  pub opens : numbers m.root m.frames ≡ open_before n (numbers r fs)
  pub left : ℕ
  pub well : Well m.root m.frames left

frame_cut : (d n : ℕ) (f : Frame) → FrameFit d f → n ≤ length f.made → Ends n f.made → FrameFit d (with_made f (take n f.made))
frame_cut d n f h l e = record { kind = h.kind; opening = h.opening; closing = h.closing; forest = forest_cut h.forest n l e }

cut_root_lem : (n : ℕ) (r : Frame) (d : ℕ) → Well r [] d → n ≤ length r.made → Clear (suc n) r []
    → Cut (suc n) r [] (record { root = with_made r (take n r.made); frames = [] })
unfolding laid open_before
cut_root_lem n r d w h c =
    record {
      trees = refl;
      opens = refl;
      left = d;
      well = (w.0, frame_cut d n r w.1 h (λ i g q. let x = c (suc i) (omega arith) (omega arith) q (below_among (suc i) [] tt) in omega arith));
    }

-- the last frame begins at n or later: it goes
cut_past : (n : ℕ) (r f : Frame) (fs : List Frame) (m : Model) → n ≤ length (laid r fs) → Cut n r fs m → Cut n r (f ∷ fs) m
unfolding laid open_before
cut_past n r f fs m h x =
    let e = le-ltb (length (laid r fs)) n h in
    record {
      trees = x.trees ∙ sym (take-append-le n (laid r fs) (begun f) h);
      opens = simp e x.opens;
      left = x.left;
      well = x.well;
    }

clear_past : (n : ℕ) (r f : Frame) (fs : List Frame) → n ≤ length (laid r fs) → Clear n r (f ∷ fs) → Clear n r fs
clear_past n r f fs h c i p g q a =
    let l : i < length (laid r fs) = omega arith in
    let e = laid_below r f fs i l in
    let x = c i p g (ap is_sub e ∙ q) (among_other i (length (laid r fs)) (numbers r fs) l ∙ a) in
    rw e at x

-- it begins before n: its trees before n are left
cut_last : (j : ℕ) (r f : Frame) (fs : List Frame) (d : ℕ) → Well r (f ∷ fs) d → j ≤ length f.made → Clear (length (laid r fs) + suc j) r (f ∷ fs)
    → Cut (length (laid r fs) + suc j) r (f ∷ fs) (record { root = r; frames = with_made f (take j f.made) ∷ fs })
unfolding laid open_before
cut_last j r f fs d w h c =
    let e = lt-ltb (length (laid r fs)) (length (laid r fs) + suc j) (omega arith) in
    let b = below_more (length (laid r fs)) (length (laid r fs) + suc j) (numbers r fs) (omega arith) (numbers_below r fs) in
    record {
      trees = sym (take-append-add (laid r fs) (begun f) (suc j));
      opens = simp e (ap (λ x. length (laid r fs) ∷ x) (sym (all_before (length (laid r fs) + suc j) (numbers r fs) b)));
      left = d;
      well = (frame_cut d j f w.0 h (λ i g q. inner i g q), w.1);
    }
  where
    inner : Ends j f.made
    inner i g q =
        let e = laid_made r f fs i in
        let b : Below (length (laid r fs) + suc i) (numbers r (f ∷ fs)) =
        (omega arith, below_more (length (laid r fs)) (length (laid r fs) + suc i) (numbers r fs) (omega arith) (numbers_below r fs)) in
        let x = c (length (laid r fs) + suc i) (omega arith) (omega arith) (ap is_sub e ∙ q) (below_among (length (laid r fs) + suc i) (numbers r (f ∷ fs)) b) in
        let y : length (laid r fs) + suc i + 1 + count_in (get_or f.made i []) ≤ length (laid r fs) + suc j = rw e at x in
        omega arith

cut_step : (n : ℕ) (r f : Frame) (fs : List Frame) (d : ℕ) → Well r (f ∷ fs) d → n ≤ length (laid r (f ∷ fs)) → Clear n r (f ∷ fs)
    → (n ≤ length (laid r fs) → Cut n r fs (cut n r fs)) → Cut n r (f ∷ fs) (cut n r (f ∷ fs))
cut_step n r f fs d w h c rec = go (leb n (length (laid r fs))) refl
  where
    j : ℕ
    j = n - (length (laid r fs) + 1)

    go : (x : Bool) → leb n (length (laid r fs)) ≡ x → Cut n r (f ∷ fs) (cut n r (f ∷ fs))
    go true t =
        let l = leb-true n (length (laid r fs)) t in
        rw (cut_in n r f fs l) (cut_past n r f fs (cut n r fs) l (rec l))
    go false t =
        let l = leb-false n (length (laid r fs)) t in
        let m = laid_more r f fs in
        let k : n ≡ length (laid r fs) + suc j = omega arith in
        let x = cut_last j r f fs d w (omega arith) (subst (λ z. Clear z r (f ∷ fs)) k c) in
        rw (cut_here n r f fs l) (subst (λ z. Cut z r (f ∷ fs) (record { root = r; frames = with_made f (take j f.made) ∷ fs })) (sym k) x)

pub cut_is : (n : ℕ) (r : Frame) (fs : List Frame) (d : ℕ) → Well r fs d → 1 ≤ n → n ≤ length (laid r fs) → Clear n r fs → Cut n r fs (cut n r fs)
unfolding cut laid
cut_is zero r [] d w p h c = absurd (omega arith)
cut_is (suc n) r [] d w p h c =
    let e : suc n - 1 ≡ n = omega arith in
    rw e (cut_root_lem n r d w (omega arith) c)
cut_is n r (f ∷ fs) d w p h c = cut_step n r f fs d w h c (λ l. cut_is n r fs (suc d) w.1 p l (clear_past n r f fs l c))
