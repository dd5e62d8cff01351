-- The builder after a step, as the definitions see it: the definitions' builder after that step.
use Prim.Native.Nat.{ℕ, zero, suc, ◌+◌, ◌-◌, ◌≤◌, ◌<◌}
use mathlib.Core.Bool.{Bool, true, false, not}
use mathlib.Core.Path.{◌≡◌, refl, sym, ap, ◌∙◌, subst}
use mathlib.Core.List.{List, ◌∷◌}
use native.Mathlib.Omega.{arith}
use native.Mathlib.Numerals.{add-one}
use borrow.Author.Tests.{ltb-true, eqb-true, not-true}
use lib.Dec.{ltb, leb, eqb}
use lib.ListN.{length, get_or, set, length-set}
use lib.Seq.{get_or-set_same, get_or-set_other}
use Rattle.std.specs.Prelude.{if◌then◌else◌, Err}
use Rattle.format.specs.Verdict.{Verdict, passed, refused, ◌and_then◌, contents, rule, each_from}
use Rattle.format.specs.Builder.{open_fit, sub_at, disagrees, reaches_past, but_last, open_before, point_fits, open_verdict, restore_verdict, restored, Step, push, open_subtree, close_subtree, restore, step_verdict, step_builder, step_words, builder_step}
use Rattle.format.specs.Builder as format
use Rattle.format.proofs.Each.{and₄, both, rule_passed}
use Rattle.builder.proofs.Framed.{below_more, all_before}
use Rattle.builder.proofs.BuilderRun.{after_step}
use Rattle.builder.proofs.BuilderRestore.{agrees_is, fit_below}
use Rattle.tree.specs.Refusal.{verdict_answer}
use Rattle.tree.proofs.Answers.{answer_refused}
use Rattle.tree.specs.declared.refusal.Refusal.{Refusal}
use Rattle.builder.specs.declared.state.Builder.{Builder}
use Rattle.builder.specs.declared.state.Stepped.{Stepped}
use Rattle.builder.specs.State.{numbers, seen}
use Rattle.builder.specs.Taken.{after, Taken}
use Rattle.builder.proofs.Numbers.{numbers_length}
use Rattle.builder.proofs.TakenReturns.{open_few}

-- ---- the array of open trees

lt_ne : (j i : ℕ) → j < i → j ≡ i → ⊥
lt_ne j i h e = omega arith

-- a store from place d on is not looked at
numbers_set : (a : List ℕ) (i x d : ℕ) → d ≤ i → numbers (set a i x) d ≡ numbers a d
unfolding numbers
numbers_set a i x zero h = refl
numbers_set a i x (suc d) h =
    let e = get_or-set_other a i d x 0 (lt_ne d i (omega arith)) in
    rw (e, numbers_set a i x d (omega arith))

opens : (a : List ℕ) (d x : ℕ) → d < length a → numbers (set a d x) (d + 1) ≡ x ∷ numbers a d
unfolding numbers
opens a d x h =
    let e = get_or-set_same a d x 0 h in
    rw (add-one d) (rw (e, numbers_set a d x d (omega arith)))

closes : (a : List ℕ) (d : ℕ) → numbers a (d - 1) ≡ but_last (numbers a d)
unfolding numbers
closes a zero = refl
closes a (suc d) = let e : suc d - 1 ≡ d = omega arith in rw e

whole_front : (a : List ℕ) (d : ℕ) → get_or a d 0 ∷ numbers a d ≡ numbers a (length (get_or a d 0 ∷ numbers a d))
unfolding numbers
whole_front a d = let e = numbers_length a d in rw e

-- of rising numbers those before n are the first ones
cuts : (l a : List ℕ) (n top d : ℕ) → open_fit l top (numbers a d) ≡ true → open_before n (numbers a d) ≡ numbers a (length (open_before n (numbers a d)))
unfolding numbers open_fit open_before
cuts l a n top zero e = refl
cuts l a n top (suc d) e = go (ltb (get_or a d 0) n) refl (cuts l a n (get_or a d 0) d fit.3)
  where
    m : ℕ
    m = get_or a d 0

    fit : (leb 1 m ≡ true) × (ltb m top ≡ true) × (sub_at l m ≡ true) × (open_fit l m (numbers a d) ≡ true)
    fit = and₄ (leb 1 m) (ltb m top) (sub_at l m) (open_fit l m (numbers a d)) e

    go : (x : Bool) → ltb m n ≡ x → open_before n (numbers a d) ≡ numbers a (length (open_before n (numbers a d)))
        → (if x then m ∷ open_before n (numbers a d) else open_before n (numbers a d))
        ≡ numbers a (length (if x then m ∷ open_before n (numbers a d) else open_before n (numbers a d)))
    go true t rec =
        let h = ltb-true m n t in
        let q = all_before n (numbers a d) (below_more m n (numbers a d) (omega arith) (fit_below l m (numbers a d) fit.3)) in
        rw q (whole_front a d)
    go false t rec = rec

-- ---- any step

-- the array's length, which a builder's type promises
pub record Sized (b : Builder) : Type 0 where
  pub size : length b.opened ≡ 256

record Next (s : Step) (b : Builder) : Type 0 where
  sees : seen (after s b) ≡ step_builder s (seen b)
  sized : Sized (after s b)

-- the last part of a restore point's fit
point_open : (l : List ℕ) (b : format.Builder) (p : format.Point) → point_fits l b p ≡ passed → length (open_before p.trees b.opened) ≡ p.opened
unfolding point_fits
point_open l b p e =
    let v = each_from (λ i. rule (not (reaches_past l b p.trees i)) 11 0) (p.trees - 1) 1 in
    let t = eqb (length (open_before p.trees b.opened)) p.opened in
    eqb-true _ _ (rule_passed t 11 0 (both v (rule t 11 0) e).1)

next_restore : (p : format.Point) (b : Builder) (l : List ℕ) → Sized b → open_fit l b.count (numbers b.opened b.depth) ≡ true
    → (x : Bool) → leb b.count p.trees ≡ x → (if x then passed else point_fits l (seen b) p) ≡ passed → Next (restore p) b
unfolding after
next_restore p b l z f true t e = record { sees = simp t; sized = simp t z }
next_restore p b l z f false t e =
    let q = point_open l (seen b) p e in
    let o : numbers b.opened p.opened ≡ open_before p.trees (numbers b.opened b.depth) = rw (← q) (sym (cuts l b.opened p.trees b.count b.depth f)) in
    record {
      sees = simp t (ap (λ (y : List ℕ). record { count = p.trees; opened = y }) o);
      sized = simp t (record { size = z.size });
    }

next : (s : Step) (b : Builder) (l : List ℕ) → Sized b → step_verdict s (seen b) l ≡ passed → Next s b
unfolding after
next (push w) b l z e = record { sees = refl; sized = record { size = z.size } }
next (open_subtree kind s) b l z e =
    let h = open_few l (seen b) kind s e in
    let k : b.depth < 255 = rw (numbers_length b.opened b.depth) at h in
    let q = z.size in
    record {
      sees = ap (λ (o : List ℕ). record { count = b.count + 1; opened = o }) (opens b.opened b.depth b.count (omega arith));
      sized = record { size = length-set b.opened b.depth b.count ∙ z.size };
    }
next (close_subtree s) b l z e =
    record {
      sees = ap (λ (o : List ℕ). record { count = b.count; opened = o }) (closes b.opened b.depth);
      sized = record { size = z.size };
    }
next (restore p) b l z e =
    let t = leb b.count p.trees in
    let fits : Verdict = if t then passed else point_fits l (seen b) p in
    let x = both (rule (not (disagrees l (seen b))) 10 0) (rule (leb 1 p.trees) 11 0 and_then fits) e in
    let y = both (rule (leb 1 p.trees) 11 0) fits x.1 in
    let a = agrees_is l (seen b) (not-true (disagrees l (seen b)) (rule_passed (not (disagrees l (seen b))) 10 0 x.0)) in
    next_restore p b l z a.fit t refl y.1

-- a step of the code: r is its answer, l' what the run holds then
module _ (s : Step) (b : Builder) (l : List ℕ) (r : Stepped) (l' : List ℕ) (taken : Taken s b l r l') where
  -- THE STEP: the builder that is handed back is the definitions' builder after the step
  pub step_sees : Sized b → (seen r.builder ≡ (builder_step s (seen b) l).builder) × Sized r.builder
  step_sees z = go (step_verdict s (seen b) l) refl
    where
      go : (v : Verdict) → step_verdict s (seen b) l ≡ v → (seen r.builder ≡ (builder_step s (seen b) l).builder) × Sized r.builder
      go passed e =
          let a = after_step s (seen b) l passed e in
          let n = next s b l z e in
          let q : r.builder ≡ after s b = taken.builder ∙ ap (λ (v : Verdict). contents v b (after s b)) a.0 in
          (ap seen q ∙ n.sees ∙ sym a.1, subst Sized (sym q) n.sized)
      go (refused x m) e =
          let a = after_step s (seen b) l (refused x m) e in
          let q : r.builder ≡ b = taken.builder ∙ ap (λ (v : Verdict). contents v b (after s b)) a.0 in
          (ap seen q ∙ sym a.1, subst Sized (sym q) z)

  -- REFUSED: a refused step changes nothing, whatever the builder
  pub step_kept : (x : Refusal) → r.verdict ≡ Err x → (r.builder ≡ b) × (l' ≡ l)
  unfolding builder_step
  step_kept x h =
      let n = answer_refused (step_verdict s (seen b) l) x (sym taken.answer ∙ h) in
      (taken.builder ∙ ap (λ (v : Verdict). contents v b (after s b)) n, taken.words ∙ ap (λ (v : Verdict). contents v l (step_words s (seen b) l)) n)

-- builders that the definitions see alike answer alike and leave the run alike
pub step_alike : (s : Step) (b c : Builder) (l : List ℕ) (r q : Stepped) (m n : List ℕ) → seen b ≡ seen c → Taken s b l r m → Taken s c l q n
    → (r.verdict ≡ q.verdict) × (m ≡ n)
step_alike s b c l r q m n e t u = (
  t.answer ∙ ap (λ (x : format.Builder). verdict_answer (builder_step s x l).verdict) e ∙ sym u.answer,
  t.words ∙ ap (λ (x : format.Builder). (builder_step s x l).words) e ∙ sym u.words,
)
