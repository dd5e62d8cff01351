-- One law for each return of the functions of src/restore.rt, with premises as the code's tests and calls give them.
use Prim.Native.Nat.{ℕ, suc, ◌+◌, ◌*◌, ◌-◌, ◌≤◌, ◌<◌}
use mathlib.Core.Bool.{Bool, true, false, not, ◌&&◌, ◌||◌}
use mathlib.Core.Path.{◌≡◌, refl, sym, ap, ◌∙◌}
use mathlib.Core.List.{List, ◌∷◌}
use native.Mathlib.Omega.{arith}
use borrow.Author.Tests.{le-leb, lt-leb, le-ltb, lt-ltb, eq-eqb, ne_eqb, not-true, not-false}
use mir.Val.{bool_byte}
use lib.Dec.{ltb, eqb}
use lib.ListN.{length, get_or}
use Rattle.std.specs.Prelude.{if◌then◌else◌, Result, Ok, Err, ⊤}
use Rattle.format.specs.Verdict.{Verdict, passed, refused, ◌and_then◌, rule, each_from}
use Rattle.format.specs.Width.{tree_size}
use Rattle.format.specs.WordList.{list_count}
use Rattle.format.specs.Builder.{sub_at, disagrees, is_among, open_before, reaches_past, point_fits, point_verdict, restore_point, restore_verdict, restore}
use Rattle.format.specs.Builder as format
use Rattle.format.proofs.Each.{rule_passed}
use Rattle.builder.proofs.BuilderRestore.{Agrees, agrees_is}
use Rattle.tree.specs.Refusal.{verdict_answer}
use Rattle.tree.proofs.Answers.{answer_passed}
use Rattle.tree.specs.declared.refusal.Refusal.{Refusal}
use Rattle.builder.specs.declared.state.Builder.{Builder}
use Rattle.builder.specs.declared.state.Point.{Point}
use Rattle.builder.specs.State.{numbers, state_of, seen}
use Rattle.builder.specs.Restoring.{point_of, point_answer, closed_from}
use Rattle.builder.specs.Taken.{after, Taken}
use Rattle.builder.proofs.Numbers.{numbers_length, numbers_last}
use Rattle.builder.proofs.StepReturns.{first_refused, passed_is}
use Rattle.builder.proofs.TakenReturns.{step_refused, step_passed}

-- ---- is_among

among_nothing : (a : List ℕ) (i : ℕ) → is_among i (numbers a 0) ≡ false
unfolding is_among numbers
among_nothing a i = refl

module _ (a : List ℕ) (i depth d : ℕ) (inv : is_among i (numbers a depth) ≡ is_among i (numbers a d)) where
  module _ (j : ℕ) (h : j + 1 ≡ d) where
    among_down : is_among i (numbers a depth) ≡ (eqb i (get_or a j 0) || is_among i (numbers a j))
    unfolding is_among
    among_down = inv ∙ ap (λ (x : ℕ). is_among i (numbers a x)) (sym h) ∙ (let e = numbers_last a j in rw e)

    pub among_found : get_or a j 0 ≡ i → true ≡ is_among i (numbers a depth)
    among_found e = sym (among_down ∙ simp (eq-eqb i (get_or a j 0) (sym e)))

    pub among_again : (get_or a j 0 ≡ i → ⊥) → is_among i (numbers a depth) ≡ is_among i (numbers a j)
    among_again f = among_down ∙ simp (ne_eqb i (get_or a j 0) (λ e. f (sym e)))

  pub among_none : d ≡ 0 → false ≡ is_among i (numbers a depth)
  among_none z = sym (inv ∙ ap (λ (x : ℕ). is_among i (numbers a x)) z ∙ among_nothing a i)

pub ruleset among_cases = (among_found, among_again, among_none)

-- ---- open_before

byte_is : (b : Bool) → bool_byte b ≡ (if b then 1 else 0)
byte_is true = refl
byte_is false = refl

pub byte_most : (b : Bool) → bool_byte b ≤ 1
byte_most true = omega arith
byte_most false = omega arith

before_nothing : (a : List ℕ) (n : ℕ) → length (open_before n (numbers a 0)) ≡ 0
unfolding open_before numbers
before_nothing a n = refl

module _ (a : List ℕ) (n depth k d : ℕ) (inv : length (open_before n (numbers a depth)) ≡ k + length (open_before n (numbers a d))) where
  module _ (j : ℕ) (h : j + 1 ≡ d) where
    before_down : length (open_before n (numbers a d)) ≡ (if ltb (get_or a j 0) n then 1 else 0) + length (open_before n (numbers a j))
    unfolding open_before
    before_down = ap (λ (x : ℕ). length (open_before n (numbers a x))) (sym h) ∙ (let e = numbers_last a j in rw e (go (ltb (get_or a j 0) n)))
      where
        go : (x : Bool) → length (if x then get_or a j 0 ∷ open_before n (numbers a j) else open_before n (numbers a j))
            ≡ (if x then 1 else 0) + length (open_before n (numbers a j))
        go true = omega arith
        go false = omega arith

    pub before_again : (r : ℕ) → r ≡ bool_byte (ltb (get_or a j 0) n) → length (open_before n (numbers a depth)) ≡ k + r + length (open_before n (numbers a j))
    before_again r e =
        let z = before_down in
        let y = byte_is (ltb (get_or a j 0) n) in
        omega arith

  pub before_done : d ≡ 0 → k ≡ length (open_before n (numbers a depth))
  before_done z =
      let y : length (open_before n (numbers a d)) ≡ 0 = ap (λ (x : ℕ). length (open_before n (numbers a x))) z ∙ before_nothing a n in
      omega arith

-- ---- reaches_past

module _ (l a : List ℕ) (c d n i at : ℕ) (e : at ≡ i) (x : Bool) (f : x ≡ sub_at l at) where
  pub past_leaf : not x ≡ true → false ≡ reaches_past l (state_of c d a) n i
  past_leaf h = let z : sub_at l i ≡ false = ap (sub_at l) (sym e) ∙ sym f ∙ not-true x h in simp z

  module _ (h : not x ≡ false) (k : ℕ) (g : k ≡ get_or l (tree_size * at + 1) 0) (m : ℕ) (q : m ≡ n) where
    stands : sub_at l i ≡ true
    stands = ap (sub_at l) (sym e) ∙ sym f ∙ not-false x h

    ends : at + 1 + k ≡ i + 1 + get_or l (tree_size * i + 1) 0
    ends = rw (g, e)

    pub past_within : at + 1 + k ≤ m → false ≡ reaches_past l (state_of c d a) n i
    past_within j =
        let u = ends in
        let z = le-ltb n (i + 1 + get_or l (tree_size * i + 1) 0) (omega arith) in
        go (not (is_among i (numbers a d))) z
      where
        go : (y : Bool) → ltb n (i + 1 + get_or l (tree_size * i + 1) 0) ≡ false → false ≡ (sub_at l i && y && ltb n (i + 1 + get_or l (tree_size * i + 1) 0))
        go true z = simp (stands, z)
        go false z = simp (stands, z)

    module _ (j : m < at + 1 + k) (y : Bool) (r : y ≡ is_among i (numbers a d)) where
      past_end : ltb n (i + 1 + get_or l (tree_size * i + 1) 0) ≡ true
      past_end = let u = ends in lt-ltb n (i + 1 + get_or l (tree_size * i + 1) 0) (omega arith)

      pub past_open : y ≡ true → false ≡ reaches_past l (state_of c d a) n i
      past_open t = let z : is_among i (numbers a d) ≡ true = sym r ∙ t in simp (stands, past_end, z)

      pub past_closed : y ≡ false → true ≡ reaches_past l (state_of c d a) n i
      past_closed t = let z : is_among i (numbers a d) ≡ false = sym r ∙ t in simp (stands, past_end, z)

pub ruleset past_cases = (past_leaf, past_within, past_open, past_closed)

-- ---- closed_fit

module _ (l : List ℕ) (b : format.Builder) (n i : ℕ) where
  closed_step : i < n → closed_from l b n i ≡ (rule (not (reaches_past l b n i)) 11 0 and_then closed_from l b n (i + 1))
  unfolding closed_from each_from
  closed_step h = let e : n - i ≡ suc (n - (i + 1)) = omega arith in rw e

  closed_end : n ≤ i → closed_from l b n i ≡ passed
  unfolding closed_from each_from
  closed_end h = let e : n - i ≡ 0 = omega arith in rw e

  module _ (inv : closed_from l b n 1 ≡ closed_from l b n i) where
    module _ (h : i < n) (x : Bool) (e : x ≡ reaches_past l b n i) (z : Result ⊤ Refusal) (f : z ≡ verdict_answer (rule (not x) 11 0)) where
      pub closed_11 : (a : Refusal) → z ≡ Err a → Err a ≡ verdict_answer (closed_from l b n 1)
      closed_11 a q = first_refused (rule (not (reaches_past l b n i)) 11 0) (closed_from l b n (i + 1)) z (rw e at f) a q ∙ ap verdict_answer (sym (inv ∙ closed_step h))

      pub closed_again : z ≡ Ok tt → closed_from l b n 1 ≡ closed_from l b n (i + 1)
      closed_again q =
          let r = answer_passed (rule (not (reaches_past l b n i)) 11 0) (sym (rw e at f) ∙ q) in
          inv ∙ closed_step h ∙ ap (λ (v : Verdict). v and_then closed_from l b n (i + 1)) r

    pub closed_done : n ≤ i → Ok tt ≡ verdict_answer (closed_from l b n 1)
    closed_done h = passed_is _ (inv ∙ closed_end h)

-- ---- point_fits

module _ (l : List ℕ) (b : format.Builder) (p : Point) where
  -- trees 1 to n - 1, then the number of those that are open
  pub point_is : (closed_from l b p.trees 1 and_then rule (eqb (length (open_before p.trees b.opened)) p.opened) 11 0) ≡ point_fits l b (point_of p)
  unfolding point_fits closed_from
  point_is = refl

-- ---- restore_verdict

module _ (l a : List ℕ) (n d : ℕ) where
  abbrev agreed_at : Verdict
  agreed_at = rule (not (disagrees l (state_of n d a))) 10 0

  pub agreeing : agreed_at ≡ passed → Agrees l (state_of n d a)
  agreeing h = agrees_is l (state_of n d a) (not-true (disagrees l (state_of n d a)) (rule_passed (not (disagrees l (state_of n d a))) 10 0 h))

  module _ (h : agreed_at ≡ passed) where
    pub restore_inside : (t : ℕ) → t < n → t ≤ list_count l
    restore_inside t j = let z = (agreeing h).in_run in omega arith

    pub restore_few : d ≤ 255
    restore_few = let z = (agreeing h).few in rw (numbers_length a d) at z

    pub point_fits_u32 : d < 4294967296
    point_fits_u32 = let z = restore_few in omega arith

    pub point_taken : Ok (record { trees = n; opened = d }) ≡ point_answer (point_verdict l (state_of n d a)) (restore_point l (state_of n d a))
    unfolding point_answer
    point_taken = rw h (let q = numbers_length a d in rw q)

  pub point_10 : (x : Refusal) → agreed_at ≡ refused x.number x.tree → Err x ≡ point_answer (point_verdict l (state_of n d a)) (restore_point l (state_of n d a))
  unfolding point_answer
  point_10 x h = rw h

-- ---- restore

module _ (b : Builder) (l : List ℕ) (p : Point) (v : Result ⊤ Refusal) (e : v ≡ verdict_answer (restore_verdict l (seen b) (point_of p))) where
  pub restore_refused : (x : Refusal) → v ≡ Err x → Taken (restore (point_of p)) b l (record { verdict = v; builder = b }) l
  restore_refused x h = step_refused (restore (point_of p)) b l v e x h

  module _ (h : v ≡ Ok tt) where
    pub restore_stays : b.count ≤ p.trees → Taken (restore (point_of p)) b l (record { verdict = v; builder = b }) l
    unfolding after
    restore_stays k = step_passed (restore (point_of p)) b l v e h b (simp (le-leb _ _ k)) l refl

    pub restore_done : p.trees < b.count → (d : ℕ) → d ≡ p.opened
        → Taken (restore (point_of p)) b l (record { verdict = v; builder = record { count = p.trees; depth = d; opened = b.opened } }) l
    unfolding after
    restore_done k d f =
        step_passed (restore (point_of p)) b l v e h (record { count = p.trees; depth = d; opened = b.opened }) (rw f (simp (lt-leb _ _ k))) l refl

pub ruleset restore_cases = (restore_refused, restore_stays, restore_done)
