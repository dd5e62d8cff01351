-- One law for each return and each turn of a loop, with premises as the code's tests and calls give them.
use Prim.Native.Nat.{ℕ, suc, ◌+◌, ◌*◌, ◌-◌, ◌%◌, ◌≤◌, ◌<◌}
use mathlib.Core.Bool.{Bool, true, false}
use mathlib.Core.Path.{◌≡◌, refl, sym, ap, ◌∙◌}
use mathlib.Core.List.{List, [], ◌∷◌}
use native.Mathlib.Omega.{arith}
use native.Mathlib.Nat.{add-zero}
use borrow.Author.Tests.{eq-eqb, ne_eqb, eqb-true, eqb-false, leb-true}
use lib.Dec.{leb, eqb}
use lib.ListN.{length, get_or, set}
use Rattle.std.specs.Prelude.{Result, Ok, Err, ⊤, if◌then◌else◌}
use Rattle.format.specs.Verdict as format
use Rattle.format.specs.Verdict.{passed, refused, ◌and_then◌, each_from}
use Rattle.format.specs.Nest.{still_open, innermost, nest}
use Rattle.format.proofs.OpenEnds.{open_ends, open_length, open_more, open_suc}
use Rattle.format.specs.Buffer.{word_shape}
use Rattle.format.specs.Width.{tree_size}
use Rattle.format.specs.Builder.{holding_all}
use Rattle.format.specs.WordList.{word_of, word_fields, list_count, given, list_sized, list_rules, list_rows}
use Rattle.format.proofs.Each.{and₃, and_left, and_right}
use Rattle.format.proofs.Holding.{holding_leaf, holding_same, holding_two, holding_nest}
use Rattle.format.proofs.NestLaw.{still_above, still_below}
use Rattle.tree.specs.Refusal.{verdict_answer}
use Rattle.tree.specs.declared.refusal.Refusal.{Refusal}
use Rattle.list.specs.Pass.{fields_from, is_sub, next_sub, is_rooted, pass_from, nest_below, nest_row}
use Rattle.list.proofs.PassLaw.{pass_three, pass_four, pass_sub, pass_end, pass_next, next_sub_lem, next_most, next_least, next_past, next_here, next_end}

-- ---- answers

pub refused_answer : (r n : ℕ) → Err (record { number = r; tree = n }) ≡ verdict_answer (refused r n)
unfolding verdict_answer
refused_answer r n = refl

passed_answer : Ok tt ≡ verdict_answer passed
unfolding verdict_answer
passed_answer = refl

-- two checks of which the first refuses, or passes
pub answer_refused : (v w : format.Verdict) (a : Refusal) → verdict_answer v ≡ Err a → verdict_answer (v and_then w) ≡ Err a
unfolding verdict_answer
answer_refused passed w a e = let z : ◌≡◌ {A = ℕ} 0 1 = cc in absurd (omega arith)
answer_refused (refused r n) w a e = e

pub answer_passed : (v w : format.Verdict) → verdict_answer v ≡ Ok tt → verdict_answer (v and_then w) ≡ verdict_answer w
unfolding verdict_answer
answer_passed passed w e = refl
answer_passed (refused r n) w e = let z : ◌≡◌ {A = ℕ} 0 1 = cc in absurd (omega arith)

-- ---- row 2

module _ (l : List ℕ) (n : ℕ) (e : fields_from l 0 ≡ fields_from l n) where
  pub fields_end : list_count l ≤ n → Ok tt ≡ verdict_answer (fields_from l 0)
  unfolding fields_from each_from
  fields_end h = let z : list_count l - n ≡ 0 = omega arith in passed_answer ∙ ap verdict_answer (sym (e ∙ rw z))

  module _ (h : n < list_count l) (y : Bool) (f : y ≡ word_fields (word_of l n)) where
    one_less : list_count l - n ≡ suc (list_count l - (n + 1))
    one_less = omega arith

    pub fields_two : y ≡ false → (v : Result ⊤ Refusal) → v ≡ verdict_answer (refused 2 n) → v ≡ verdict_answer (fields_from l 0)
    unfolding fields_from each_from
    fields_two k v q =
        let a : word_fields (word_of l n) ≡ false = sym f ∙ k in
        q ∙ ap verdict_answer (sym (e ∙ rw one_less (simp a)))

    pub fields_next : y ≡ true → fields_from l 0 ≡ fields_from l (n + 1)
    unfolding fields_from each_from
    fields_next k =
        let a : word_fields (word_of l n) ≡ true = sym f ∙ k in
        e ∙ rw one_less (simp a)

pub ruleset row_two_cases = (fields_end, fields_two, fields_next)

-- ---- the next subtree

module _ (l : List ℕ) (from n : ℕ) (e : next_sub l from ≡ next_sub l n) where
  pub next_stops : (m : ℕ) → m ≡ list_count l → n ≡ m → m ≡ next_sub l from
  next_stops m k h = sym (e ∙ rw h (next_end l m (omega arith)))

  module _ (h : n < list_count l) where
    sort : is_sub l n ≡ eqb (get_or l (tree_size * n) 0) 3
    unfolding is_sub
    sort = rw (add-zero (tree_size * n))

    pub next_found : get_or l (tree_size * n) 0 ≡ 3 → n ≡ next_sub l from
    next_found k = sym (e ∙ next_here l n h (sort ∙ eq-eqb _ _ k))

    pub next_goes : (get_or l (tree_size * n) 0 ≡ 3 → ⊥) → next_sub l from ≡ next_sub l (n + 1)
    next_goes k = e ∙ next_past l n h (sort ∙ ne_eqb _ _ k)

pub ruleset next_cases = (next_stops, next_found, next_goes)

-- ---- the open ends

module _ (ends : List ℕ) (n depth d : ℕ) (e : still_open n (open_ends ends depth) ≡ still_open n (open_ends ends d)) where
  pub none_open_lem : d ≡ 0 → open_ends ends 0 ≡ still_open n (open_ends ends depth)
  unfolding open_ends still_open
  none_open_lem h = sym (e ∙ rw h)

  module _ (i : ℕ) (h : i + 1 ≡ d) where
    last : open_ends ends d ≡ get_or ends i 0 ∷ open_ends ends i
    last = let k : d - 1 ≡ i = omega arith in rw k at (open_suc ends d (omega arith))

    pub stays_open : n < get_or ends i 0 → (r : ℕ) → r ≡ d → open_ends ends r ≡ still_open n (open_ends ends depth)
    stays_open k r q = rw q (sym (e ∙ ap (still_open n) last ∙ still_above n (get_or ends i 0) (open_ends ends i) (omega arith) ∙ sym last))

    pub is_shut : get_or ends i 0 ≤ n → still_open n (open_ends ends depth) ≡ still_open n (open_ends ends i)
    is_shut k = e ∙ ap (still_open n) last ∙ still_below n (get_or ends i 0) (open_ends ends i) (omega arith)

pub ruleset open_cases = (none_open_lem, stays_open, is_shut)

module _ (ends : List ℕ) (depth count : ℕ) where
  pub end_of_list : depth ≡ 0 → count ≡ innermost count (open_ends ends depth)
  unfolding open_ends
  end_of_list h = rw h

  pub end_of_one : (depth ≡ 0 → ⊥) → (x : ℕ) → x ≡ get_or ends (depth - 1) 0 → x ≡ innermost count (open_ends ends depth)
  end_of_one h x e = e ∙ sym (ap (innermost count) (open_suc ends depth (omega arith)))

pub ruleset around_cases = (end_of_list, end_of_one)

-- ---- the root

module _ (l : List ℕ) where
  pub root_sort : (get_or l 0 0 ≡ 3 → ⊥) → false ≡ is_rooted l
  unfolding is_rooted
  root_sort h = let a : eqb (get_or l 0 0) 3 ≡ false = ne_eqb _ _ h in simp a

-- ---- the pass

-- the pass has come to tree n, a subtree or the end, with these ends open
pub record Passing (l : List ℕ) (n depth : ℕ) (ends : List ℕ) : Type 0 where
  same : nest_below l ≡ pass_from l n (open_ends ends depth)
  here : n < list_count l → is_sub l n ≡ true

pub first_most_lem : (l : List ℕ) (m : ℕ) → m ≡ next_sub l 1 → 1 ≤ list_count l → m ≤ list_count l
first_most_lem l m e h = let a = next_most l 1 h in omega arith

pub most_next : (l : List ℕ) (n m : ℕ) → m ≡ next_sub l (n + 1) → n < list_count l → m ≤ list_count l
most_next l n m e h = let a = next_most l (n + 1) (omega arith) in omega arith

pub next_less : (l : List ℕ) (n m : ℕ) → m ≡ next_sub l (n + 1) → n < list_count l → list_count l - m < list_count l - n
next_less l n m e h = let a = next_least l (n + 1) in omega arith

pub pass_starts : (l ends : List ℕ) (n : ℕ) → n ≡ next_sub l 1 → 1 ≤ list_count l → get_or ends 0 0 ≡ list_count l → Passing l n 1 ends
unfolding nest_below open_ends
pass_starts l ends n e h f =
    record {
      same = pass_next l 1 (list_count l ∷ []) h ∙ rw (e, f);
      here = λ k. rw e (next_sub_lem l 1 h (rw e at k));
    }

module _ (l ends : List ℕ) (n depth : ℕ) (p : Passing l n depth ends) where
  pub pass_ends : list_count l ≤ n → Ok tt ≡ verdict_answer (nest_below l)
  pass_ends h = passed_answer ∙ ap verdict_answer (sym (p.same ∙ pass_end l n (open_ends ends depth) h))

  module _ (h : n < list_count l) (d : ℕ) (o : open_ends ends d ≡ still_open n (open_ends ends depth)) (a : ℕ) (f : a ≡ innermost (list_count l) (open_ends ends d))
      (e : ℕ) (g : e ≡ n + 1 + word_of l n 1) where
    around : a ≡ innermost (list_count l) (still_open n (open_ends ends depth))
    around = f ∙ ap (innermost (list_count l)) o

    deep : length (still_open n (open_ends ends depth)) ≡ d
    deep = ap length (sym o) ∙ open_length ends d

    pub passes_end : a < e → (v : Result ⊤ Refusal) → v ≡ verdict_answer (refused 3 n) → v ≡ verdict_answer (nest_below l)
    passes_end k v q =
        let u = around in
        q ∙ ap verdict_answer (sym (p.same ∙ pass_three l n (open_ends ends depth) h (p.here h) (omega arith)))

    module _ (k : e ≤ a) where
      pub too_deep : 256 ≤ d → (v : Result ⊤ Refusal) → v ≡ verdict_answer (refused 4 n) → v ≡ verdict_answer (nest_below l)
      too_deep i v q =
          let u = around in
          let w = deep in
          q ∙ ap verdict_answer (sym (p.same ∙ pass_four l n (open_ends ends depth) h (p.here h) (omega arith) (omega arith)))

      pub pass_goes : d < 256 → length ends ≡ 256 → (m : ℕ) → m ≡ next_sub l (n + 1) → Passing l m (d + 1) (set ends d e)
      pass_goes i y m r =
          let u = around in
          let w = deep in
          record {
            same = p.same ∙ pass_sub l n (open_ends ends depth) h (p.here h) (omega arith) (omega arith) ∙
                ap (pass_from l (n + 1)) (rw (← g, ← o) (sym (open_more ends d e (omega arith)))) ∙
                pass_next l (n + 1) (open_ends (set ends d e) (d + 1)) (omega arith) ∙ rw r;
            here = λ j. rw r (next_sub_lem l (n + 1) (omega arith) (rw r at j));
          }

pub ruleset pass_cases = (first_most_lem, most_next, next_less, pass_starts, pass_ends, passes_end, too_deep, pass_goes)

-- ---- the rows in turn

module _ (l : List ℕ) where
  unrooted_row : is_rooted l ≡ false → nest_row l ≡ refused 3 0
  unfolding nest_row is_rooted
  unrooted_row h = simp h

  module _ (some : 1 ≤ list_count l) where
    held_row : get_or l 0 0 ≡ 3 → nest_row (holding_all l) ≡ nest_below l
    unfolding nest_row nest_below pass_from
    held_row r = holding_nest l some r

    -- a root that holds all others needs no taking
    rooted_row : is_rooted l ≡ true → nest_row l ≡ nest_below l
    unfolding is_rooted
    rooted_row h =
        let a = eqb-true (get_or l 0 0) 3 (and_left (eqb (get_or l 0 0) 3) (eqb (0 + 1 + word_of l 0 1) (list_count l)) h) in
        let c = eqb-true (0 + 1 + word_of l 0 1) (list_count l) (and_right (eqb (get_or l 0 0) 3) (eqb (0 + 1 + word_of l 0 1) (list_count l)) h) in
        let e : get_or l 1 0 ≡ list_count l - 1 = omega arith in
        ap nest_row (sym (holding_same l e)) ∙ held_row a

module _ (l : List ℕ) (some : 1 ≤ list_count l) where
  -- rows 3 and 4 by whether the root holds all others
  nest_is : nest_row l ≡ (if is_rooted l then nest_below l else refused 3 0)
  nest_is = go (is_rooted l) refl
    where
      go : (b : Bool) → is_rooted l ≡ b → nest_row l ≡ (if b then nest_below l else refused 3 0)
      go true h = rooted_row l some h
      go false h = unrooted_row l h

  -- … of a list whose root is taken to hold all others
  held_is : nest_row (holding_all l) ≡ (if eqb (get_or l 0 0) 3 then nest_below l else refused 3 0)
  held_is = go (eqb (get_or l 0 0) 3) refl
    where
      go : (b : Bool) → eqb (get_or l 0 0) 3 ≡ b → nest_row (holding_all l) ≡ (if b then nest_below l else refused 3 0)
      go true h = held_row l some (eqb-true _ _ h)
      go false h = let n = eqb-false _ _ h in ap nest_row (holding_leaf l n) ∙ unrooted_row l (sym (root_sort l n))

  module _ (r : Result ⊤ Refusal) (e : r ≡ verdict_answer (fields_from l 0)) where
    whole : verdict_answer (fields_from l 0 and_then nest_row l) ≡ verdict_answer (list_rules l)
    unfolding list_rules fields_from nest_row
    whole = let z : list_count l - 0 ≡ list_count l = omega arith in rw z

    pub rules_two : (a : Refusal) → r ≡ Err a → Err a ≡ verdict_answer (list_rules l)
    rules_two a k = sym (answer_refused (fields_from l 0) (nest_row l) a (sym e ∙ k)) ∙ whole

    pub rules_nest : r ≡ Ok tt → (b : Bool) → b ≡ is_rooted l → (v : Result ⊤ Refusal) → v ≡ verdict_answer (if b then nest_below l else refused 3 0) → v ≡ verdict_answer (list_rules l)
    rules_nest k b m v q = rw m at q ∙ ap verdict_answer (sym nest_is) ∙ sym (answer_passed (fields_from l 0) (nest_row l) (sym e ∙ k)) ∙ whole

    held_whole : verdict_answer (fields_from l 0 and_then nest_row (holding_all l)) ≡ verdict_answer (list_rules (holding_all l))
    unfolding list_rules fields_from nest_row
    held_whole =
        let z : list_count l - 0 ≡ list_count l = omega arith in
        rw z (ap (λ v. verdict_answer (v and_then nest word_shape (given (holding_all l)))) (sym (holding_two l)))

    pub held_two : (a : Refusal) → r ≡ Err a → Err a ≡ verdict_answer (list_rules (holding_all l))
    held_two a k = sym (answer_refused (fields_from l 0) (nest_row (holding_all l)) a (sym e ∙ k)) ∙ held_whole

    pub held_nest : r ≡ Ok tt → (v : Result ⊤ Refusal) → v ≡ verdict_answer (if eqb (get_or l 0 0) 3 then nest_below l else refused 3 0) → v ≡ verdict_answer (list_rules (holding_all l))
    held_nest k v q = q ∙ ap verdict_answer (sym held_is) ∙ sym (answer_passed (fields_from l 0) (nest_row (holding_all l)) (sym e ∙ k)) ∙ held_whole

pub ruleset rules_cases = (rules_two, rules_nest)

pub ruleset held_cases = (held_two, held_nest)

-- ---- row 1

-- what a caller learns of a list that row 1 passes
module _ (l : List ℕ) (b : Bool) (e : b ≡ list_sized l) (k : b ≡ true) where
  three : (eqb (length l % tree_size) 0 ≡ true) × (leb 1 (list_count l) ≡ true) × (leb (list_count l) 1048576 ≡ true)
  three = and₃ (eqb (length l % tree_size) 0) (leb 1 (list_count l)) (leb (list_count l) 1048576) (sym e ∙ k)

  pub sized_some : 1 ≤ list_count l
  sized_some = leb-true 1 (list_count l) three.1

  pub sized_most : list_count l ≤ 1048576
  sized_most = leb-true (list_count l) 1048576 three.2

module _ (l : List ℕ) (b : Bool) (e : b ≡ list_sized l) (v : Result ⊤ Refusal) where
  pub rows_one : b ≡ false → v ≡ verdict_answer (refused 1 0) → v ≡ verdict_answer (list_rows l)
  rows_one k q = let a = sym e ∙ k in q ∙ simp a

  pub rows_rules : b ≡ true → v ≡ verdict_answer (list_rules l) → v ≡ verdict_answer (list_rows l)
  rows_rules k q = let a = sym e ∙ k in q ∙ simp a

pub ruleset rows_cases = (sized_some, sized_most, rows_one, rows_rules)
