-- The builder and its plain model: after every list of steps the lent run holds the model's trees, and the builder agrees with the run.
use Prim.Native.Nat.{ℕ, suc, ◌+◌, ◌*◌, ◌-◌, ◌≤◌, ◌<◌}
use mathlib.Core.Bool.{Bool, true, false, not, ◌&&◌}
use mathlib.Core.Path.{◌≡◌, refl, sym, ap, ◌∙◌, subst}
use mathlib.Core.List.{List, [], ◌∷◌, ◌++◌, append_assoc, append-nil}
use native.Mathlib.Omega.{arith}
use borrow.Author.Tests.{not-true, le-leb, lt-ltb, le-ltb, ne_eqb, ltb-true, ltb-false, leb-true, leb-false}
use lib.Dec.{eqb, ltb, leb}
use lib.ListN.{length, take, drop, get_or, length-append, take-append-drop}
use lib.Seq.{take_at, take-append-le, length-take-le}
use Rattle.format.specs.WordList.{tree_list, word_of, list_count}
use Rattle.format.specs.Width.{close_at, tree_size}
use Rattle.format.specs.Part.{WordSpan, span_list}
use Rattle.std.specs.Prelude.{if◌then◌else◌}
use Rattle.format.specs.Verdict.{Verdict, passed, refused, ◌and_then◌, contents, rule, each_from}
use Rattle.format.specs.Word.{put}
use Rattle.format.specs.Root.{range_fits}
use Rattle.format.specs.Builder.{Builder, Point, subtree_words, leaf_words, leaf_fits, sub_at, end_at, open_fit, disagrees, no_builder, new_builder, new, agreed, room, push_verdict, open_verdict, close_verdict, add_tree, close_tree, close_last, but_last, open_before, is_among, reaches_past, point_fits, restore_verdict, restored, Step, push, open_subtree, close_subtree, restore, step_verdict, step_builder, step_words, builder_step, builder_run}
use Rattle.builder.specs.Frames.{Trees, flat, Frame, Model, whole, begun, with_closing, laid, added, close_frame, cut, model_step, model_run, new_model, accepted}
use Rattle.format.proofs.Each.{and_left, and_right, and₃, both, rule_passed, each_all}
use Rattle.builder.proofs.Trees.{put_seam, put_behind, Sized, flat_append, flat_length, flat_take, tree_at_lem}
use Rattle.builder.proofs.Forest.{is_sub, count_in, Forest, none}
use Rattle.builder.proofs.Framed.{FrameFit, Well, leaf_fit, laid_sized, laid_some, laid_more, well_deep, numbers, length_numbers, laid_head, laid_root, Clear, laid_ends, added_laid, added_numbers, added_well, closed_forest, cut_over, cut_is}

-- ---- a refused step

-- "A refused step gives back the old state" and changes nothing lent
pub refused_keeps : (s : Step) (b : Builder) (l : List ℕ) (r n : ℕ) → (builder_step s b l).verdict ≡ refused r n
    → ((builder_step s b l).builder ≡ b) × ((builder_step s b l).words ≡ l)
unfolding builder_step
refused_keeps s b l r n e = (ap (λ v. contents v b (step_builder s b)) e, ap (λ v. contents v l (step_words s b l)) e)

pub new_keeps : (kind : ℕ) (o c : WordSpan) (l : List ℕ) (r n : ℕ) → (new kind o c l).verdict ≡ refused r n
    → ((new kind o c l).builder ≡ no_builder) × ((new kind o c l).words ≡ l)
unfolding new
new_keeps kind o c l r n e = (ap (λ v. contents v no_builder new_builder) e, ap (λ v. contents v l (put l 0 (subtree_words 0 kind o c))) e)

-- ---- builder and run hold a model

pub record Holds (r : Frame) (fs : List Frame) (b : Builder) (l : List ℕ) : Type 0 where
  pub left : ℕ
  pub well : Well r fs left
  pub counts : b.count ≡ length (laid r fs)
  pub opens : b.opened ≡ numbers r fs
  pub rest : List ℕ
  pub words : l ≡ flat (laid r fs) ++ rest
  pub small : b.count ≤ 1048576

-- the run's length, by the trees that are there
run_length : (l rest : List ℕ) (ts : Trees) → l ≡ flat ts ++ rest → Sized ts → length l ≡ tree_size * length ts + length rest
run_length l rest ts e s =
    let a = ap length e in
    let b = length-append (flat ts) rest in
    let c = flat_length ts s in
    omega arith

-- ---- the builder agrees

words_below : (r f : Frame) (fs : List Frame) (l rest : List ℕ) → l ≡ flat (laid r (f ∷ fs)) ++ rest → l ≡ flat (laid r fs) ++ (flat (begun f) ++ rest)
unfolding laid
words_below r f fs l rest e = e ∙ ap (λ x. x ++ rest) (flat_append (laid r fs) (begun f)) ∙ append_assoc (flat (laid r fs)) (flat (begun f)) rest

open_fit_lem : (r : Frame) (fs : List Frame) (d : ℕ) (l rest : List ℕ) → Well r fs d → l ≡ flat (laid r fs) ++ rest
    → open_fit l (length (laid r fs)) (numbers r fs) ≡ true
unfolding open_fit
open_fit_lem r [] d l rest w e = refl
open_fit_lem r (f ∷ fs) d l rest w e =
    let m = laid_more r f fs in
    let x = le-leb 1 (length (laid r fs)) (laid_some r fs) in
    let y = lt-ltb (length (laid r fs)) (length (laid r (f ∷ fs))) (omega arith) in
    let z : sub_at l (length (laid r fs)) ≡ true =
    ap is_sub (tree_at_lem l rest (laid r (f ∷ fs)) e (laid_sized r (f ∷ fs) d w) (length (laid r fs)) (omega arith) ∙ laid_head r f fs) in
    let u = open_fit_lem r fs (suc d) l (flat (begun f) ++ rest) w.1 (words_below r f fs l rest e) in
    simp (x, y, z, u)

module _ (r : Frame) (fs : List Frame) (b : Builder) (l : List ℕ) (H : Holds r fs b l) where
  sized : Sized (laid r fs)
  sized = laid_sized r fs H.left H.well

  long : length l ≡ tree_size * b.count + length H.rest
  long = let a = run_length l H.rest (laid r fs) H.words sized in let c = H.counts in omega arith

  pub tree_is : (n : ℕ) → n < b.count → tree_list (word_of l n) ≡ get_or (laid r fs) n []
  tree_is n h = let c = H.counts in tree_at_lem l H.rest (laid r fs) H.words sized n (omega arith)

  pub front_words : take (tree_size * b.count) l ≡ flat (laid r fs)
  front_words =
      let c = H.counts in
      let k = flat_length (laid r fs) sized in
      ap (take (tree_size * b.count)) H.words ∙ take_at (flat (laid r fs)) H.rest (tree_size * b.count) (omega arith)

  -- "state and lent list" do not disagree
  pub agrees : disagrees l b ≡ false
  unfolding disagrees
  agrees =
      let c = H.counts in
      let o = H.opens in
      let k = laid_some r fs in
      let n = ap length o ∙ length_numbers r fs in
      let d = well_deep r fs H.left H.well in
      let m = long in
      let x₁ = ne_eqb b.count 0 (omega arith) in
      let x₂ = le-ltb 1048576 b.count H.small in
      let x₃ = le-ltb (list_count l) b.count (omega arith) in
      let x₄ = le-ltb 255 (length b.opened) (omega arith) in
      let x₅ : sub_at l 0 ≡ true = ap is_sub (tree_is 0 (omega arith) ∙ laid_root r fs) in
      let x₆ : open_fit l b.count b.opened ≡ true = rw (c, o) (open_fit_lem r fs H.left l H.rest H.well H.words) in
      simp (x₁, x₂, x₃, x₄, x₅, x₆)

  -- a subtree that is not among the open ones lies within what is there
  pub closed_within : (i : ℕ) → 1 ≤ i → i < b.count → sub_at l i ≡ true → is_among i b.opened ≡ false → end_at l i ≤ b.count
  closed_within i p h q a =
      let e = tree_is i h in
      let c = H.counts in
      let x = laid_ends r fs H.left H.well i p (omega arith) (ap is_sub (sym e) ∙ q) (ap (is_among i) (sym H.opens) ∙ a) in
      let k : end_at l i ≡ i + 1 + count_in (get_or (laid r fs) i []) = ap (λ t. i + 1 + count_in t) e in
      omega arith

-- ---- a step that passes

abbrev HoldsM : Model → Builder → List ℕ → Type 0
HoldsM m b l = Holds m.root m.frames b l

-- one more tree behind the others
one_more : (l rest : List ℕ) (ts : Trees) (t : List ℕ) (n : ℕ) → l ≡ flat ts ++ rest → Sized ts → n ≡ length ts → length t ≡ tree_size → tree_size ≤ length rest
    → put l (tree_size * n) t ≡ flat (ts ++ (t ∷ [])) ++ drop tree_size rest
unfolding flat
one_more l rest ts t n e s c z h =
    let f = flat_length ts s in
    let a = put_behind (flat ts) rest t (tree_size * n) (omega arith) (omega arith) in
    let x : flat (ts ++ (t ∷ [])) ≡ flat ts ++ t = flat_append ts (t ∷ []) ∙ ap (λ y. flat ts ++ y) (append-nil t) in
    rw (e, a, z, x) (sym (append_assoc (flat ts) t (drop tree_size rest)))

room_is : (l : List ℕ) (b : Builder) → room l b ≡ passed → (b.count < 1048576) × (b.count < list_count l)
room_is l b e =
    let x = both (rule (ltb b.count 1048576) 1 b.count) (rule (ltb b.count (list_count l)) 6 b.count) e in (
      ltb-true b.count 1048576 (rule_passed (ltb b.count 1048576) 1 b.count x.0),
      ltb-true b.count (list_count l) (rule_passed (ltb b.count (list_count l)) 6 b.count x.1),
    )

-- a tree added to the last frame
holds_added : (r : Frame) (fs : List Frame) (b : Builder) (l t : List ℕ) (H : Holds r fs b l) → length t ≡ tree_size → Forest H.left (t ∷ []) → room l b ≡ passed
    → HoldsM (added (t ∷ []) r fs) (record { count = b.count + 1; opened = b.opened }) (add_tree l b t)
holds_added r fs b l t H z g e =
    let ro = room_is l b e in
    let ro₁ = ro.0 in
    let ro₂ = ro.1 in
    let m = long r fs b l H in
    let c = H.counts in
    let a = added_laid (t ∷ []) r fs in
    let n = ap length a ∙ length-append (laid r fs) (t ∷ []) in
    record {
      left = H.left;
      well = added_well (t ∷ []) r fs H.left H.well g;
      counts = omega arith;
      opens = H.opens ∙ sym (added_numbers (t ∷ []) r fs);
      rest = drop tree_size H.rest;
      words = rw a (one_more l H.rest (laid r fs) t b.count H.words (sized r fs b l H) c z (omega arith));
      small = omega arith;
    }

holds_push : (r : Frame) (fs : List Frame) (b : Builder) (l w : List ℕ) → Holds r fs b l → push_verdict l b w ≡ passed
    → HoldsM (added (leaf_words w ∷ []) r fs) (record { count = b.count + 1; opened = b.opened }) (add_tree l b (leaf_words w))
holds_push r fs b l w H e =
    let x = both (agreed l b) (rule (leaf_fits w) 2 b.count and_then room l b) e in
    let y = both (rule (leaf_fits w) 2 b.count) (room l b) x.1 in
    holds_added r fs b l (leaf_words w) H refl (leaf_fit H.left w (rule_passed (leaf_fits w) 2 b.count y.0)) y.1

holds_open : (r : Frame) (fs : List Frame) (b : Builder) (l : List ℕ) (kind : ℕ) (s : WordSpan) → Holds r fs b l → open_verdict l b kind s ≡ passed
    → Holds r (record { kind = kind; opening = s; closing = s; made = [] } ∷ fs) (record { count = b.count + 1; opened = b.count ∷ b.opened })
    (add_tree l b (subtree_words 0 kind s s))
unfolding laid
holds_open r fs b l kind s H e =
    let x = both (agreed l b) (rule (leb kind 3 && range_fits s) 2 b.count and_then rule (ltb (length b.opened) 255) 4 b.count and_then room l b) e in
    let y = both (rule (leb kind 3 && range_fits s) 2 b.count) (rule (ltb (length b.opened) 255) 4 b.count and_then room l b) x.1 in
    let z = both (rule (ltb (length b.opened) 255) 4 b.count) (room l b) y.1 in
    let u = rule_passed (leb kind 3 && range_fits s) 2 b.count y.0 in
    let su = and_right (leb kind 3) (range_fits s) u in
    let v = ltb-true (length b.opened) 255 (rule_passed (ltb (length b.opened) 255) 4 b.count z.0) in
    let ro = room_is l b z.1 in
    let ro₁ = ro.0 in
    let ro₂ = ro.1 in
    let m = long r fs b l H in
    let c = H.counts in
    let o = ap length H.opens ∙ length_numbers r fs in
    let d = well_deep r fs H.left H.well in
    let q : H.left ≡ suc (H.left - 1) = omega arith in
    let t : List ℕ = subtree_words 0 kind s s in
    let n = length-append (laid r fs) (t ∷ []) in
    let fit : FrameFit (H.left - 1) (record { kind = kind; opening = s; closing = s; made = [] }) =
    record { kind = and_left (leb kind 3) (range_fits s) u; opening = su; closing = su; forest = none } in
    record {
      left = H.left - 1;
      well = (fit, subst (Well r fs) q H.well);
      counts = omega arith;
      opens = λ i. H.counts i ∷ H.opens i;
      rest = drop tree_size H.rest;
      words = one_more l H.rest (laid r fs) t b.count H.words (sized r fs b l H) c refl (omega arith);
      small = omega arith;
    }

-- descendant count and close span of the subtree behind a
close_words : (a q : List ℕ) (m n k : ℕ) (o c s : WordSpan) → length a ≡ tree_size * m
    → put (put (a ++ (subtree_words 0 k o c ++ q)) (tree_size * m + 1) (n ∷ [])) (tree_size * m + close_at) (span_list s) ≡ a ++ (subtree_words n k o s ++ q)
close_words a q m n k o c s e =
    let t : List ℕ = k ∷ span_list o ++ (span_list c ++ q) in
    let h : List ℕ = 3 ∷ n ∷ k ∷ span_list o in
    let x₁ : put (a ++ (3 ∷ 0 ∷ t)) (tree_size * m + 1) (n ∷ []) ≡ a ++ (3 ∷ n ∷ t) =
    ap (λ z. put z (tree_size * m + 1) (n ∷ [])) (sym (append_assoc a (3 ∷ []) (0 ∷ t)))
    ∙ put_seam (a ++ (3 ∷ [])) (0 ∷ []) t (n ∷ []) (tree_size * m + 1) (simp length-append (omega arith)) refl
    ∙ append_assoc a (3 ∷ []) (n ∷ t) in
    let x₂ : put (a ++ (h ++ (span_list c ++ q))) (tree_size * m + close_at) (span_list s) ≡ a ++ (h ++ (span_list s ++ q)) =
    ap (λ z. put z (tree_size * m + close_at) (span_list s)) (sym (append_assoc a h (span_list c ++ q)))
    ∙ put_seam (a ++ h) (span_list c) q (span_list s) (tree_size * m + close_at) (simp length-append (omega arith)) refl
    ∙ append_assoc a h (span_list s ++ q) in
    ap (λ z. put z (tree_size * m + close_at) (span_list s)) x₁ ∙ x₂

close_last_lem : (r f : Frame) (fs : List Frame) (b : Builder) (l : List ℕ) (s : WordSpan) (H : Holds r (f ∷ fs) b l)
    → close_tree l b s (length (laid r fs)) ≡ flat (laid r fs ++ whole (with_closing f s)) ++ H.rest
unfolding flat
close_last_lem r f fs b l s H =
    let m : ℕ = length (laid r fs) in
    let a : List ℕ = flat (laid r fs) in
    let q : List ℕ = flat f.made ++ H.rest in
    let d = laid_sized r fs (suc H.left) H.well.1 in
    let c = H.counts in
    let n = laid_more r f fs in
    let k : b.count - (m + 1) ≡ length f.made = omega arith in
    let e : l ≡ a ++ (subtree_words 0 f.kind f.opening f.closing ++ q) = words_below r f fs l H.rest H.words in
    let x = close_words a q m (length f.made) f.kind f.opening f.closing s (flat_length (laid r fs) d) in
    let y = ap (λ z. z ++ H.rest) (flat_append (laid r fs) (whole (with_closing f s))) ∙ append_assoc a (flat (whole (with_closing f s))) H.rest in
    ap (λ z. put (put z (tree_size * m + 1) ((b.count - (m + 1)) ∷ [])) (tree_size * m + close_at) (span_list s)) e
    ∙ ap (λ z. put (put (a ++ (subtree_words 0 f.kind f.opening f.closing ++ q)) (tree_size * m + 1) (z ∷ [])) (tree_size * m + close_at) (span_list s)) k
    ∙ x ∙ sym y

holds_close : (r : Frame) (fs : List Frame) (b : Builder) (l : List ℕ) (s : WordSpan) → Holds r fs b l → close_verdict l b s ≡ passed
    → HoldsM (close_frame s r fs) (record { count = b.count; opened = but_last b.opened }) (close_last l b s b.opened)
holds_close r fs b l s H e =
    let x = both (agreed l b) (rule (leb 1 (length b.opened)) 10 b.count and_then rule (range_fits s) 2 b.count) e in
    let y = both (rule (leb 1 (length b.opened)) 10 b.count) (rule (range_fits s) 2 b.count) x.1 in
    go fs H (leb-true 1 (length b.opened) (rule_passed (leb 1 (length b.opened)) 10 b.count y.0)) (rule_passed (range_fits s) 2 b.count y.1)
  where
    go : (fs : List Frame) → Holds r fs b l → 1 ≤ length b.opened → range_fits s ≡ true
        → HoldsM (close_frame s r fs) (record { count = b.count; opened = but_last b.opened }) (close_last l b s b.opened)
    go [] H h q = let o = ap length H.opens in absurd (omega arith)
    go (f ∷ fs) H h q =
        let ts : Trees = whole (with_closing f s) in
        let a = added_laid ts r fs in
        let c = H.counts in
        let m = laid_more r f fs in
        let n = ap length a ∙ length-append (laid r fs) ts in
        record {
          left = suc H.left;
          well = added_well ts r fs (suc H.left) H.well.1 (closed_forest H.left f s H.well.0 q);
          counts = omega arith;
          opens = ap but_last H.opens ∙ sym (added_numbers ts r fs);
          rest = H.rest;
          words = ap (close_last l b s) H.opens ∙ close_last_lem r f fs b l s H ∙ ap (λ z. flat z ++ H.rest) (sym a);
          small = H.small;
        }

-- the closed subtrees before a point that fits end before it
clear_from : (r : Frame) (fs : List Frame) (b : Builder) (l : List ℕ) (p : Point) → Holds r fs b l → p.trees < b.count → point_fits l b p ≡ passed
    → Clear p.trees r fs
unfolding point_fits
clear_from r fs b l p H h e i k g q a =
    let F : ℕ → Verdict = λ i. rule (not (reaches_past l b p.trees i)) 11 0 in
    let x = both (each_from F (p.trees - 1) 1) (rule (eqb (length (open_before p.trees b.opened)) p.opened) 11 0) e in
    let y = rule_passed (not (reaches_past l b p.trees i)) 11 0 (each_all F (p.trees - 1) 1 x.0 i k (omega arith)) in
    let z = not-true (reaches_past l b p.trees i) y in
    let t = tree_is r fs b l H i (omega arith) in
    let u : sub_at l i ≡ true = ap is_sub t ∙ q in
    let v : is_among i b.opened ≡ false = ap (is_among i) H.opens ∙ a in
    let w : ltb p.trees (end_at l i) ≡ false = simp (u, v) at z in
    let n = ltb-false p.trees (end_at l i) w in
    let j : end_at l i ≡ i + 1 + count_in (get_or (laid r fs) i []) = ap (λ t. i + 1 + count_in t) t in
    omega arith

holds_cut : (r : Frame) (fs : List Frame) (b : Builder) (l : List ℕ) (n : ℕ) → Holds r fs b l → 1 ≤ n → n < b.count → Clear n r fs
    → HoldsM (cut n r fs) (record { count = n; opened = open_before n b.opened }) l
holds_cut r fs b l n H k h c =
    let ts : Trees = laid r fs in
    let o = H.counts in
    let m = H.small in
    let z = sized r fs b l H in
    let f = flat_length ts z in
    let x = cut_is n r fs H.left H.well k (omega arith) c in
    let t : take (tree_size * n) l ≡ flat (take n ts) =
    ap (take (tree_size * n)) H.words ∙ take-append-le (tree_size * n) (flat ts) H.rest (omega arith) ∙ flat_take n ts z (omega arith) in
    record {
      left = x.left;
      well = x.well;
      counts = sym (ap length x.trees ∙ length-take-le n ts (omega arith));
      opens = ap (open_before n) H.opens ∙ sym x.opens;
      rest = drop (tree_size * n) l;
      words = sym (take-append-drop (tree_size * n) l) ∙ ap (λ y. y ++ drop (tree_size * n) l) (t ∙ ap flat (sym x.trees));
      small = omega arith;
    }

holds_restore : (r : Frame) (fs : List Frame) (b : Builder) (l : List ℕ) (p : Point) → Holds r fs b l → restore_verdict l b p ≡ passed
    → HoldsM (cut p.trees r fs) (restored p b) l
holds_restore r fs b l p H e =
    let v : Verdict = if leb b.count p.trees then passed else point_fits l b p in
    let x = both (rule (not (disagrees l b)) 10 0) (rule (leb 1 p.trees) 11 0 and_then v) e in
    let y = both (rule (leb 1 p.trees) 11 0) v x.1 in
    go (leb b.count p.trees) refl (leb-true 1 p.trees (rule_passed (leb 1 p.trees) 11 0 y.0)) y.1
  where
    go : (z : Bool) → leb b.count p.trees ≡ z → 1 ≤ p.trees → (if leb b.count p.trees then passed else point_fits l b p) ≡ passed
        → HoldsM (cut p.trees r fs) (restored p b) l
    go true t h g =
        let a = leb-true b.count p.trees t in
        let c = H.counts in
        let k = cut_over p.trees r fs (omega arith) in
        simp t (subst (λ m. HoldsM m b l) (sym k) H)
    go false t h g =
        let a = leb-false b.count p.trees t in
        let g' : point_fits l b p ≡ passed = simp t at g in
        simp t (holds_cut r fs b l p.trees H h a (clear_from r fs b l p H a g'))

-- a step that passes does to the run what the plain step does to the model
pub holds_step : (s : Step) (m : Model) (b : Builder) (l : List ℕ) → HoldsM m b l → step_verdict s b l ≡ passed
    → HoldsM (model_step s m) (step_builder s b) (step_words s b l)
holds_step (push w) m b l H e = holds_push m.root m.frames b l w H e
holds_step (open_subtree kind s) m b l H e = holds_open m.root m.frames b l kind s H e
holds_step (close_subtree s) m b l H e = holds_close m.root m.frames b l s H e
holds_step (restore p) m b l H e = holds_restore m.root m.frames b l p H e

-- ---- every list of steps

pub after_step : (s : Step) (b : Builder) (l : List ℕ) (v : Verdict) → step_verdict s b l ≡ v
    → ((builder_step s b l).verdict ≡ v) × ((builder_step s b l).builder ≡ contents v b (step_builder s b)) × ((builder_step s b l).words ≡ contents v l (step_words s b l))
unfolding builder_step
after_step s b l v e = (e, ap (λ v. contents v b (step_builder s b)) e, ap (λ v. contents v l (step_words s b l)) e)

-- the model that the accepted steps make is what builder and run hold, refused steps among them or not
pub holds_run : (ss : List Step) (m : Model) (b : Builder) (l : List ℕ) → HoldsM m b l
    → HoldsM (model_run (accepted ss b l) m) (builder_run ss b l).builder (builder_run ss b l).words
unfolding builder_run accepted model_run
holds_run [] m b l H = H
holds_run (s ∷ ss) m b l H = go (step_verdict s b l) refl
    (λ m H. holds_run ss m (builder_step s b l).builder (builder_step s b l).words H)
  where
    go : (v : Verdict) → step_verdict s b l ≡ v
        → ((m : Model) → HoldsM m (builder_step s b l).builder (builder_step s b l).words
        → HoldsM (model_run (accepted ss (builder_step s b l).builder (builder_step s b l).words) m)
        (builder_run ss (builder_step s b l).builder (builder_step s b l).words).builder
        (builder_run ss (builder_step s b l).builder (builder_step s b l).words).words)
        → HoldsM (model_run (accepted (s ∷ ss) b l) m) (builder_run (s ∷ ss) b l).builder (builder_run (s ∷ ss) b l).words
    go passed e rec =
        let a = after_step s b l passed e in
        let x = a.0 in
        rw x (rec (model_step s m) (rw (a.1, a.2) (holds_step s m b l H e)))
    go (refused r n) e rec =
        let a = after_step s b l (refused r n) e in
        let x = a.0 in
        rw x (rec m (rw (a.1, a.2) H))

start : (kind : ℕ) (o c : WordSpan) (l : List ℕ) → leb kind 3 ≡ true → range_fits o ≡ true → range_fits c ≡ true → tree_size ≤ length l
    → HoldsM (new_model kind o c) new_builder (put l 0 (subtree_words 0 kind o c))
unfolding laid flat
start kind o c l x y z h =
    record {
      left = 255;
      well = (refl, record { kind = x; opening = y; closing = z; forest = none });
      counts = refl;
      opens = refl;
      rest = drop tree_size l;
      words = put_behind [] l (subtree_words 0 kind o c) 0 refl h;
      small = omega arith;
    }

pub holds_new : (kind : ℕ) (o c : WordSpan) (l : List ℕ) → (new kind o c l).verdict ≡ passed
    → HoldsM (new_model kind o c) (new kind o c l).builder (new kind o c l).words
unfolding new
holds_new kind o c l e =
    let x = both (rule (leb kind 3 && range_fits o && range_fits c) 2 0) (rule (leb 1 (list_count l)) 6 0) e in
    let y = and₃ (leb kind 3) (range_fits o) (range_fits c) (rule_passed (leb kind 3 && range_fits o && range_fits c) 2 0 x.0) in
    let h = leb-true 1 (list_count l) (rule_passed (leb 1 (list_count l)) 6 0 x.1) in
    let s = start kind o c l y.0 y.1 y.2 (omega arith) in
    subst (λ v. HoldsM (new_model kind o c) (contents v no_builder new_builder) (contents v l (put l 0 (subtree_words 0 kind o c)))) (sym e) s

-- ---- where none is refused, all steps are the accepted ones

pub all_accepted : (ss : List Step) (b : Builder) (l : List ℕ) → (builder_run ss b l).verdict ≡ passed → accepted ss b l ≡ ss
unfolding builder_run accepted
all_accepted [] b l e = refl
all_accepted (s ∷ ss) b l e =
    let a = builder_step s b l in
    let x = both a.verdict (builder_run ss a.builder a.words).verdict e in
    let y = x.0 in
    rw y (ap (λ z. s ∷ z) (all_accepted ss a.builder a.words x.1))
