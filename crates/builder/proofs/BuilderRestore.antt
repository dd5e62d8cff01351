-- Restoring: after steps that close no subtree open at a point, `restore` gives back the builder of the point, and the run before it.
use Prim.Native.Nat.{ℕ, zero, suc, ◌+◌, ◌*◌, ◌-◌, ◌≤◌, ◌<◌}
use mathlib.Core.Bool.{Bool, true, false, not, ◌&&◌, ◌||◌}
use mathlib.Core.Path.{◌≡◌, refl, sym, ap, ◌∙◌, subst}
use mathlib.Core.List.{List, [], ◌∷◌, ◌++◌}
use native.Mathlib.Omega.{arith}
use borrow.Author.Tests.{not-true, not-false, le-leb, le-ltb, eq-eqb, eqb-false, ltb-true, ltb-false, leb-true}
use lib.Dec.{eqb, ltb, leb}
use lib.ListN.{length, take, get_or}
use lib.Seq.{get_or-take}
use Rattle.format.specs.Width.{close_at, tree_size}
use Rattle.format.specs.Part.{WordSpan, span_list}
use Rattle.format.specs.Verdict.{Verdict, passed, refused, ◌and_then◌, rule}
use Rattle.format.specs.Word.{put}
use Rattle.format.specs.WordList.{word_of, list_count}
use Rattle.format.specs.Root.{range_fits}
use Rattle.format.specs.Builder.{Builder, subtree_words, leaf_words, leaf_fits, sub_at, end_at, open_fit, disagrees, new, agreed, room, add_tree, close_last, but_last, open_before, is_among, point_verdict, restore_point, reaches_past, point_fits, restore_verdict, restored, Step, push, open_subtree, close_subtree, restore, step_verdict, step_builder, step_words, builder_step, builder_run, builder_from}
use Rattle.builder.specs.Frames.{Model, model_run, kept_if, accepted, model_from, stays_inside}
use Rattle.format.proofs.Each.{and₄, true_false, both, rule_passed, all_each}
use Rattle.format.proofs.Put.{put_length}
use Rattle.builder.proofs.Trees.{take_put}
use Rattle.builder.proofs.Forest.{pass_both}
use Rattle.builder.proofs.Framed.{Below, below_more, all_before}
use Rattle.builder.proofs.BuilderRun.{refused_keeps, after_step, agrees, holds_run}
use Rattle.builder.proofs.BuilderBuild.{held, always_agrees, always_within}

-- ---- what it is to agree

or_false : (a b : Bool) → (a || b) ≡ false → (a ≡ false) × (b ≡ false)
or_false true b e = true_false true refl e
or_false false b e = (refl, e)

pub record Agrees (l : List ℕ) (b : Builder) : Type 0 where
  pub some : 1 ≤ b.count
  pub small : b.count ≤ 1048576
  pub in_run : b.count ≤ list_count l
  pub few : length b.opened ≤ 255
  pub rooted : sub_at l 0 ≡ true
  pub fit : open_fit l b.count b.opened ≡ true

pub agrees_is : (l : List ℕ) (b : Builder) → disagrees l b ≡ false → Agrees l b
unfolding disagrees
agrees_is l b e =
    let c = b.count in
    let x₁ = eqb c 0 in
    let x₂ = ltb 1048576 c in
    let x₃ = ltb (list_count l) c in
    let x₄ = ltb 255 (length b.opened) in
    let x₅ = not (sub_at l 0) in
    let x₆ = not (open_fit l c b.opened) in
    let y₆ = or_false (x₁ || x₂ || x₃ || x₄ || x₅) x₆ e in
    let y₅ = or_false (x₁ || x₂ || x₃ || x₄) x₅ y₆.0 in
    let y₄ = or_false (x₁ || x₂ || x₃) x₄ y₅.0 in
    let y₃ = or_false (x₁ || x₂) x₃ y₄.0 in
    let y₂ = or_false x₁ x₂ y₃.0 in
    let z = eqb-false c 0 y₂.0 in
    record {
      some = omega arith;
      small = ltb-false 1048576 c y₂.1;
      in_run = ltb-false (list_count l) c y₃.1;
      few = ltb-false 255 (length b.opened) y₄.1;
      rooted = not-false (sub_at l 0) y₅.1;
      fit = not-false (open_fit l c b.opened) y₆.1;
    }

pub fit_below : (l : List ℕ) (top : ℕ) (ms : List ℕ) → open_fit l top ms ≡ true → Below top ms
unfolding open_fit
fit_below l top [] e = tt
fit_below l top (m ∷ ms) e =
    let x = and₄ (leb 1 m) (ltb m top) (sub_at l m) (open_fit l m ms) e in
    let h = ltb-true m top x.1 in
    (h, below_more m top ms (omega arith) (fit_below l m ms x.3))

-- a push, open or close that passes finds the builder in agreement
from_agreed : (l : List ℕ) (b : Builder) (v : Verdict) → (agreed l b and_then v) ≡ passed → Agrees l b
from_agreed l b v e = agrees_is l b (not-true (disagrees l b) (rule_passed (not (disagrees l b)) 10 b.count (both (agreed l b) v e).0))

-- ---- since a point

abbrev AtLeast : ℕ → List ℕ → Type 0
AtLeast n [] = Unit {0}
AtLeast n (m ∷ ms) = (n ≤ m) × AtLeast n ms

-- n trees were there, o were open and the run held l₀; d have been opened since
module _ (n : ℕ) (o l₀ : List ℕ) where
  record Since (d : ℕ) (b : Builder) (l : List ℕ) : Type 0 where
    later : List ℕ
    many : length later ≡ d
    opens : b.opened ≡ later ++ o
    behind : AtLeast n later
    more : n ≤ b.count
    before : take (tree_size * n) l ≡ take (tree_size * n) l₀

  in_run_lem : (l : List ℕ) (b : Builder) → Agrees l b → tree_size * b.count ≤ length l
  in_run_lem l b A = let x = A.in_run in omega arith

  since_push : (d : ℕ) (b : Builder) (l t : List ℕ) → Agrees l b → Since d b l → Since d (record { count = b.count + 1; opened = b.opened }) (add_tree l b t)
  since_push d b l t A S =
      let x = S.more in
      record {
        later = S.later;
        many = S.many;
        opens = S.opens;
        behind = S.behind;
        more = omega arith;
        before = take_put l t (tree_size * n) (tree_size * b.count) (omega arith) (in_run_lem l b A) ∙ S.before;
      }

  since_open : (d : ℕ) (b : Builder) (l t : List ℕ) → Agrees l b → Since d b l
      → Since (suc d) (record { count = b.count + 1; opened = b.count ∷ b.opened }) (add_tree l b t)
  since_open d b l t A S =
      let x = S.more in
      record {
        later = b.count ∷ S.later;
        many = ap suc S.many;
        opens = ap (λ z. b.count ∷ z) S.opens;
        behind = (x, S.behind);
        more = omega arith;
        before = take_put l t (tree_size * n) (tree_size * b.count) (omega arith) (in_run_lem l b A) ∙ S.before;
      }

  since_close : (d : ℕ) (b : Builder) (l : List ℕ) (s : WordSpan) → Agrees l b → Since (suc d) b l
      → Since d (record { count = b.count; opened = but_last b.opened }) (close_last l b s b.opened)
  since_close d b l s A S = go S.later S.many S.opens S.behind
    where
      go : (ms : List ℕ) → length ms ≡ suc d → b.opened ≡ ms ++ o → AtLeast n ms
          → Since d (record { count = b.count; opened = but_last b.opened }) (close_last l b s b.opened)
      go [] z e g = absurd (omega arith)
      go (m ∷ ms) z e g =
          let h = in_run_lem l b A in
          let f : Below b.count (m ∷ (ms ++ o)) = rw e at (fit_below l b.count b.opened A.fit) in
          let f₁ = f.0 in
          let g₁ = g.0 in
          let l₁ : List ℕ = put l (tree_size * m + 1) ((b.count - (m + 1)) ∷ []) in
          let k = put_length l (tree_size * m + 1) ((b.count - (m + 1)) ∷ []) (omega arith) in
          let x = take_put l ((b.count - (m + 1)) ∷ []) (tree_size * n) (tree_size * m + 1) (omega arith) (omega arith) in
          let y = take_put l₁ (span_list s) (tree_size * n) (tree_size * m + close_at) (omega arith) (omega arith) in
          record {
            later = ms;
            many = omega arith;
            opens = ap but_last e;
            behind = g.1;
            more = S.more;
            before = ap (λ z. take (tree_size * n) (close_last l b s z)) e ∙ y ∙ x ∙ S.before;
          }

  since_step : (s : Step) (ss : List Step) (d : ℕ) (b : Builder) (l : List ℕ) → Since d b l → stays_inside d (s ∷ ss) ≡ true → step_verdict s b l ≡ passed
      → (e : ℕ) × Since e (step_builder s b) (step_words s b l) × (stays_inside e ss ≡ true)
  unfolding stays_inside
  since_step (push w) ss d b l S h v = (d, since_push d b l (leaf_words w) (from_agreed l b (rule (leaf_fits w) 2 b.count and_then room l b) v) S, h)
  since_step (open_subtree kind s) ss d b l S h v =
      let A = from_agreed l b (rule (leb kind 3 && range_fits s) 2 b.count and_then rule (ltb (length b.opened) 255) 4 b.count and_then room l b) v in
      (suc d, since_open d b l (subtree_words 0 kind s s) A S, h)
  since_step (close_subtree s) ss zero b l S h v = true_false false h refl
  since_step (close_subtree s) ss (suc d) b l S h v =
      let A = from_agreed l b (rule (leb 1 (length b.opened)) 10 b.count and_then rule (range_fits s) 2 b.count) v in
      (d, since_close d b l s A S, h)
  since_step (restore p) ss d b l S h v = true_false false h refl

  passes : (s : Step) (b : Builder) (l : List ℕ) → (builder_step s b l).verdict ≡ passed → step_verdict s b l ≡ passed
  unfolding builder_step
  passes s b l e = e

  moved : (d : ℕ) {b b' : Builder} {l l' : List ℕ} → b ≡ b' → l ≡ l' → Since d b' l' → Since d b l
  moved d p q S = rw (p, q) S

  since_run : (ss : List Step) (d : ℕ) (b : Builder) (l : List ℕ) → Since d b l → stays_inside d ss ≡ true → (builder_run ss b l).verdict ≡ passed
      → (e : ℕ) × Since e (builder_run ss b l).builder (builder_run ss b l).words
  unfolding builder_run
  since_run [] d b l S h v = (d, S)
  since_run (s ∷ ss) d b l S h v =
      let a = builder_step s b l in
      let x = both a.verdict (builder_run ss a.builder a.words).verdict v in
      let t = passes s b l x.0 in
      let y = after_step s b l passed t in
      let z = since_step s ss d b l S h t in
      since_run ss z.0 a.builder a.words (moved z.0 y.1 y.2 z.1) z.2 x.1

  -- ---- the point still fits

  among_later : (i : ℕ) (ms : List ℕ) → is_among i (ms ++ o) ≡ false → is_among i o ≡ false
  unfolding is_among
  among_later i [] e = e
  among_later i (m ∷ ms) e = among_later i ms (or_false (eqb i m) (is_among i (ms ++ o)) e).1

  later_go : (ms : List ℕ) → AtLeast n ms → Below n o → open_before n (ms ++ o) ≡ o
  unfolding open_before
  later_go [] g f = all_before n o f
  later_go (m ∷ ms) g f =
      let e = le-ltb m n g.0 in
      simp e (later_go ms g.1 f)

  word_same : (l : List ℕ) → take (tree_size * n) l ≡ take (tree_size * n) l₀ → (i j : ℕ) → i < n → j < tree_size → word_of l i j ≡ word_of l₀ i j
  word_same l e i j h k =
      sym (get_or-take (tree_size * n) l (tree_size * i + j) 0 (omega arith)) ∙ ap (λ z. get_or z (tree_size * i + j) 0) e ∙ get_or-take (tree_size * n) l₀ (tree_size * i + j) 0 (omega arith)

  abbrev Within : Type 0
  Within = (i : ℕ) → 1 ≤ i → i < n → sub_at l₀ i ≡ true → is_among i o ≡ false → end_at l₀ i ≤ n

  none_reaches : (d : ℕ) (b : Builder) (l : List ℕ) → Since d b l → Within → (i : ℕ) → 1 ≤ i → i < n → reaches_past l b n i ≡ false
  none_reaches d b l S W i p h = go (sub_at l i) (is_among i b.opened) refl refl
    where
      go : (x y : Bool) → sub_at l i ≡ x → is_among i b.opened ≡ y → reaches_past l b n i ≡ false
      go false y e f = simp e
      go true true e f = simp (e, f)
      go true false e f =
          let w₀ = word_same l S.before i 0 h (omega arith) in
          let w₁ = word_same l S.before i 1 h (omega arith) in
          let u : sub_at l₀ i ≡ true = ap (λ z. eqb z 3) (sym w₀) ∙ e in
          let a = among_later i S.later (ap (is_among i) (sym S.opens) ∙ f) in
          let x = W i p h u a in
          let y : end_at l i ≡ end_at l₀ i = ap (λ z. i + 1 + z) w₁ in
          let t = le-ltb n (end_at l i) (omega arith) in
          simp (e, f, t)

  point_fits_lem : (d : ℕ) (b : Builder) (l : List ℕ) → Since d b l → Within → Below n o → point_fits l b (record { trees = n; opened = length o }) ≡ passed
  unfolding point_fits
  point_fits_lem d b l S W f =
      let e : open_before n b.opened ≡ o = ap (open_before n) S.opens ∙ later_go S.later S.behind f in
      let t = eq-eqb (length (open_before n b.opened)) (length o) (ap length e) in
      pass_both (all_each (λ i. rule (not (reaches_past l b n i)) 11 0) (n - 1) 1 (λ i p h. let x = none_reaches d b l S W i p (omega arith) in simp x)) (simp t)

  -- nothing has been added: nothing is open beside what was
  none_later : (ms : List ℕ) → AtLeast n ms → Below n (ms ++ o) → ms ≡ []
  none_later [] g f = refl
  none_later (m ∷ ms) g f = let x = g.0 in let y = f.0 in absurd (omega arith)

  record Back (b : Builder) (l : List ℕ) : Type 0 where
    fine : restore_verdict l b (record { trees = n; opened = length o }) ≡ passed
    back : restored (record { trees = n; opened = length o }) b ≡ record { count = n; opened = o }

  goes_back : (d : ℕ) (b : Builder) (l : List ℕ) → Since d b l → Within → Below n o → 1 ≤ n → disagrees l b ≡ false → Back b l
  goes_back d b l S W f p a = go (leb b.count n) refl
    where
      go : (x : Bool) → leb b.count n ≡ x → Back b l
      go true t =
          let x = leb-true b.count n t in
          let y = S.more in
          let k : b.count ≡ n = omega arith in
          let q = le-leb 1 n p in
          let c = fit_below l b.count b.opened (agrees_is l b a).fit in
          let g : Below n (S.later ++ o) = subst (λ z. Below n z) S.opens (subst (λ z. Below z b.opened) k c) in
          let e : b.opened ≡ o = S.opens ∙ ap (λ z. z ++ o) (none_later S.later S.behind g) in
          record { fine = simp (a, q, t); back = simp t (λ i. record { count = k i; opened = e i }) }
      go false t =
          let q = le-leb 1 n p in
          let x = point_fits_lem d b l S W f in
          let e : open_before n b.opened ≡ o = ap (open_before n) S.opens ∙ later_go S.later S.behind f in
          record { fine = simp (a, q, t) x; back = simp t (ap (λ z. record { count = n; opened = z }) e) }

-- ---- the theorem

-- a point, then steps none of which is refused or closes a subtree that was open there, then `restore`
pub record Restored (b₀ : Builder) (l₀ : List ℕ) (b : Builder) (l : List ℕ) : Type 0 where
  pub point : point_verdict l₀ b₀ ≡ passed
  pub passes : (builder_step (restore (restore_point l₀ b₀)) b l).verdict ≡ passed
  -- exactly the builder of that moment
  pub builder : (builder_step (restore (restore_point l₀ b₀)) b l).builder ≡ b₀
  -- nothing is written, and the trees before the point are those of that moment
  pub words : (builder_step (restore (restore_point l₀ b₀)) b l).words ≡ l
  pub before : take (tree_size * (restore_point l₀ b₀).trees) l ≡ take (tree_size * (restore_point l₀ b₀).trees) l₀

the_point : (l₀ : List ℕ) (b₀ : Builder) → disagrees l₀ b₀ ≡ false
    → (point_verdict l₀ b₀ ≡ passed) × (restore_point l₀ b₀ ≡ record { trees = b₀.count; opened = length b₀.opened })
the_point l₀ b₀ a = (simp a, simp a)

restores : (b₀ : Builder) (l₀ : List ℕ) (ss : List Step) → disagrees l₀ b₀ ≡ false → Within b₀.count b₀.opened l₀
    → stays_inside 0 ss ≡ true → (builder_run ss b₀ l₀).verdict ≡ passed → disagrees (builder_run ss b₀ l₀).words (builder_run ss b₀ l₀).builder ≡ false
    → Restored b₀ l₀ (builder_run ss b₀ l₀).builder (builder_run ss b₀ l₀).words
restores b₀ l₀ ss a₀ W h v a =
    let b : Builder = (builder_run ss b₀ l₀).builder in
    let l : List ℕ = (builder_run ss b₀ l₀).words in
    let n : ℕ = b₀.count in
    let o : List ℕ = b₀.opened in
    let A = agrees_is l₀ b₀ a₀ in
    let S : Since n o l₀ 0 b₀ l₀ = record { later = []; many = refl; opens = refl; behind = tt; more = omega arith; before = refl } in
    let z = since_run n o l₀ ss 0 b₀ l₀ S h v in
    let x = goes_back n o l₀ z.0 b l z.1 W (fit_below l₀ n o A.fit) A.some a in
    let p = the_point l₀ b₀ a₀ in
    let y = after_step (restore (record { trees = n; opened = length o })) b l passed x.fine in
    record {
      point = p.0;
      passes = ap (λ q. (builder_step (restore q) b l).verdict) p.1 ∙ y.0;
      builder = ap (λ q. (builder_step (restore q) b l).builder) p.1 ∙ y.1 ∙ x.back;
      words = ap (λ q. (builder_step (restore q) b l).words) p.1 ∙ y.2;
      before = subst (λ q. take (tree_size * q.trees) l ≡ take (tree_size * q.trees) l₀) (sym p.1) z.1.before;
    }

-- RESTORE, at any moment of any builder that `new` began
pub restore_back : (kind : ℕ) (o c : WordSpan) (l : List ℕ) (ss ts : List Step) → (new kind o c l).verdict ≡ passed
    → stays_inside 0 ts ≡ true
    → (builder_run ts (builder_from kind o c l ss).builder (builder_from kind o c l ss).words).verdict ≡ passed
    → Restored (builder_from kind o c l ss).builder (builder_from kind o c l ss).words
    (builder_run ts (builder_from kind o c l ss).builder (builder_from kind o c l ss).words).builder
    (builder_run ts (builder_from kind o c l ss).builder (builder_from kind o c l ss).words).words
restore_back kind o c l ss ts ok h v =
    let b : Builder = (builder_from kind o c l ss).builder in
    let r : List ℕ = (builder_from kind o c l ss).words in
    let m : Model = model_run (accepted ts b r) (model_from kind o c l ss) in
    let H = holds_run ts (model_from kind o c l ss) b r (held kind o c l ss ok) in
    restores b r ts (always_agrees kind o c l ss ok) (always_within kind o c l ss ok) h v
    (agrees m.root m.frames (builder_run ts b r).builder (builder_run ts b r).words H)

-- ---- steps refused in between do not matter

same_run : (ts : List Step) (b : Builder) (l : List ℕ)
    → ((builder_run (accepted ts b l) b l).verdict ≡ passed) × ((builder_run (accepted ts b l) b l).builder ≡ (builder_run ts b l).builder)
    × ((builder_run (accepted ts b l) b l).words ≡ (builder_run ts b l).words)
unfolding builder_run accepted
same_run [] b l = (refl, refl, refl)
same_run (s ∷ ts) b l = go (builder_step s b l).verdict refl (same_run ts (builder_step s b l).builder (builder_step s b l).words)
  where
    b' : Builder
    b' = (builder_step s b l).builder

    l' : List ℕ
    l' = (builder_step s b l).words

    Same : List Step → Builder → List ℕ → Type 0
    Same us c m = ((builder_run us c m).verdict ≡ passed) × ((builder_run us c m).builder ≡ (builder_run ts b' l').builder) × ((builder_run us c m).words ≡ (builder_run ts b' l').words)

    go : (v : Verdict) → (builder_step s b l).verdict ≡ v → Same (accepted ts b' l') b' l' → Same (kept_if (builder_step s b l).verdict s (accepted ts b' l')) b l
    go passed e r = rw e (ap (λ v. v and_then (builder_run (accepted ts b' l') b' l').verdict) e ∙ r.0, r.1, r.2)
    go (refused x n) e r =
        let k = refused_keeps s b l x n e in
        rw e (subst (λ m. Same (accepted ts b' l') b m) k.1 (subst (λ c. Same (accepted ts b' l') c l') k.0 r))

-- RESTORE, whatever was refused since the point
pub restore_after : (kind : ℕ) (o c : WordSpan) (l : List ℕ) (ss ts : List Step) → (new kind o c l).verdict ≡ passed
    → stays_inside 0 (accepted ts (builder_from kind o c l ss).builder (builder_from kind o c l ss).words) ≡ true
    → Restored (builder_from kind o c l ss).builder (builder_from kind o c l ss).words
    (builder_run ts (builder_from kind o c l ss).builder (builder_from kind o c l ss).words).builder
    (builder_run ts (builder_from kind o c l ss).builder (builder_from kind o c l ss).words).words
restore_after kind o c l ss ts ok h =
    let b : Builder = (builder_from kind o c l ss).builder in
    let r : List ℕ = (builder_from kind o c l ss).words in
    let s = same_run ts b r in
    let R = restore_back kind o c l ss (accepted ts b r) ok h s.0 in
    subst (λ m. Restored b r (builder_run ts b r).builder m) s.2 (subst (λ x. Restored b r x (builder_run (accepted ts b r) b r).words) s.1 R)
