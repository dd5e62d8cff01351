-- One law for each return of the calls that move the cursor, with premises as the code's tests and calls give them.
use Prim.Native.Nat.{ℕ, zero, suc, ◌+◌, ◌-◌, ◌/◌, ◌<◌, ◌≤◌}
use mathlib.Core.Bool.{Bool, true, false, not}
use mathlib.Core.Path.{◌≡◌, refl, sym, ap, ◌∙◌, subst}
use mathlib.Core.List.{List, [], ◌∷◌}
use native.Mathlib.Omega.{arith}
use borrow.Author.Tests.{eq-eqb, ne_eqb}
use lib.Dec.{eqb}
use lib.ListN.{length, set, drop}
use lib.Seq.{get_or-set_same, get_or-set_other}
use native.Mathlib.Numerals.{add-one}
use mathlib.Core.Logic.{◌≢◌}
use Rattle.std.specs.Prelude.{Result, Err}
use Rattle.format.specs.Cursor as calls
use Rattle.format.specs.Cursor.{Open, CursorCall, cursor_step}
use Rattle.format.specs.Width.{part_size}
use Rattle.format.specs.Tables.{Mode, mode_tables, own_limits, own_mode}
use Rattle.format.specs.Buffer.{word_shape, reader, own_reader}
use Rattle.tree.specs.Tables.{mode_in}
use Rattle.tree.specs.declared.refusal.Refusal.{Refusal}
use Rattle.format.specs.Loose.{loose_at, reported_shape, reported}
use Rattle.walk.specs.Source.{sizes, report_reader_in}
use Rattle.walk.specs.RowOne.{Silent, Speaks}
use Rattle.walk.specs.declared.buffer.Buffer.{Buffer}
use Rattle.cursor.specs.Open.{opened, cursor_of}
use Rattle.cursor.specs.Plan.{answer_of, changed, May}
use Rattle.cursor.specs.Moves.{at_of, written, state_of, Arrays, Moves, MovesIn, moved, stored, count_in, Applied}
use Rattle.cursor.specs.declared.state.At.{At}
use Rattle.cursor.specs.declared.plan.Reply.{Reply}
use Rattle.cursor.specs.declared.plan.Change.{Change}
use Rattle.cursor.specs.declared.plan.Change.TheVariants as changes
use Rattle.cursor.specs.declared.plan.Opening.{Opening}
use Rattle.cursor.specs.declared.cursor.Cursor.{Cursor}
use Rattle.cursor.proofs.OpenReturns.{opened_length}
use Rattle.cursor.proofs.CursorWords.{call_words, call_report, cursor_words, cursor_report}
use Rattle.cursor.proofs.PlanReturns.{sizes_stop}

-- ---- a change carried out

module _ (c : At) (change : Change) (ns cs ps : List ℕ) where
  pub apply_stay : change ≡ changes.Stay → Applied c change ns cs ps c ns cs ps
  unfolding moved stored count_in
  apply_stay e = rw e (record { state = refl; numbers = refl; counts = refl; places = refl })

  pub apply_on : (next : ℕ) → change ≡ changes.On next → Applied c change ns cs ps (record { place = next; number = c.number + 1; depth = c.depth }) ns cs ps
  unfolding moved stored count_in
  apply_on next e = rw e (record { state = refl; numbers = refl; counts = refl; places = refl })

  pub apply_shut : change ≡ changes.Shut → Applied c change ns cs ps (record { place = c.place; number = c.number; depth = c.depth - 1 }) ns cs ps
  unfolding moved stored count_in
  apply_shut e = rw e (record { state = refl; numbers = refl; counts = refl; places = refl })

  pub apply_enter : (o : Opening) (c' : At) (ns' cs' ps' : List ℕ) → change ≡ changes.Open o
      → Applied c (changes.Open o) ns cs ps c' ns' cs' ps' → Applied c change ns cs ps c' ns' cs' ps'
  apply_enter o c' ns' cs' ps' e h = rw e h

pub enter_is : (c : At) (ns cs ps : List ℕ) (o : Opening)
    → Applied c (changes.Open o) ns cs ps (record { place = o.next; number = c.number + 1; depth = c.depth + 1 }) (set ns c.depth c.number) (set cs c.depth o.count.0) (set ps c.depth c.place)
unfolding moved stored count_in
enter_is c ns cs ps o = record { state = refl; numbers = refl; counts = refl; places = refl }

module _ (c : At) (change : Change) (m : May c change) where
  pub may_on : (next : ℕ) → change ≡ changes.On next → c.number + 1 < 4294967296
  unfolding May
  may_on next e = subst (May c) e m

  pub may_open : (o : Opening) → change ≡ changes.Open o → c.number + 1 < 4294967296
  unfolding May
  may_open o e = (subst (May c) e m).0

  pub may_deep : (o : Opening) → change ≡ changes.Open o → c.depth < 256
  unfolding May
  may_deep o e = (subst (May c) e m).1

  pub may_shut : change ≡ changes.Shut → 1 ≤ c.depth
  unfolding May
  may_shut e = let h : 0 < c.depth = subst (May c) e m in omega arith

pub ruleset apply_cases = (apply_stay, apply_on, apply_shut, apply_enter, enter_is, may_on, may_open, may_deep, may_shut)

-- ---- the arrays, by the open subtrees

below : (m n : ℕ) → m ≡ n → suc m ≤ n → ⊥
below m n q h = omega arith

-- no more are open: nothing is written
pub written_none : (f : Open → ℕ) (a : List ℕ) (d : ℕ) (os : List Open) → length os ≤ d → a ≡ written f a d os
unfolding written
written_none f a d [] h = refl
written_none f a d (o ∷ os) h = let e : eqb (length os) d ≡ false = ne_eqb (length os) d (λ q. below (length os) d q h) in simp e

drop_one : (os : List Open) → length (drop 1 os) ≡ length os - 1
drop_one [] = refl
drop_one (o ∷ os) = let e : suc (length os) - 1 ≡ length os = omega arith in sym e

module _ (c : At) (ns cs ps : List ℕ) where
  size : length (opened ns cs ps c.depth) ≡ c.depth
  size = opened_length ns cs ps c.depth

  state_is : (change : Change) → moved change c ≡ state_of (changed change (cursor_of c ns cs ps))
  unfolding moved changed
  state_is changes.Stay = rw size
  state_is (changes.On next) = rw size
  state_is (changes.Open o) = let e : c.depth + 1 ≡ suc (length (opened ns cs ps c.depth)) = omega (arith, size) in rw e
  state_is changes.Shut = let e : c.depth - 1 ≡ length (drop 1 (opened ns cs ps c.depth)) = omega (arith, size, drop_one (opened ns cs ps c.depth)) in rw e

  abbrev newest : Change → Open
  newest change = record { number = c.number; count = count_in change; place = c.place }

  array_is : (f : Open → ℕ) (a : List ℕ) (change : Change) → stored change a c.depth (f (newest change)) ≡ written f a c.depth (changed change (cursor_of c ns cs ps)).opened
  unfolding stored changed count_in written
  array_is f a changes.Stay = written_none f a c.depth (opened ns cs ps c.depth) (omega (arith, size))
  array_is f a (changes.On next) = written_none f a c.depth (opened ns cs ps c.depth) (omega (arith, size))
  array_is f a (changes.Open o) = let e : eqb (length (opened ns cs ps c.depth)) c.depth ≡ true = eq-eqb _ _ size in simp e
  array_is f a changes.Shut = written_none f a c.depth (drop 1 (opened ns cs ps c.depth)) (omega (arith, size, drop_one (opened ns cs ps c.depth)))

-- ---- the open subtrees, by the arrays

module _ (ns cs ps : List ℕ) (d x y z : ℕ) where
  opened_under : (m : ℕ) → m ≤ d → opened (set ns d x) (set cs d y) (set ps d z) m ≡ opened ns cs ps m
  unfolding opened
  opened_under zero h = refl
  opened_under (suc m) h =
      let n : m ≢ d = λ q. below m d q h in
      let r = opened_under m (omega arith) in
      rw (get_or-set_other ns d m x 0 n, get_or-set_other cs d m y 0 n, get_or-set_other ps d m z 0 n, r)

  opened_set : d < length ns → d < length cs → d < length ps → opened (set ns d x) (set cs d y) (set ps d z) (d + 1) ≡ record { number = x; count = y; place = z } ∷ opened ns cs ps d
  unfolding opened
  opened_set f g h = rw (add-one d, get_or-set_same ns d x 0 f, get_or-set_same cs d y 0 g, get_or-set_same ps d z 0 h, opened_under d (omega arith))

opened_drop : (ns cs ps : List ℕ) (d : ℕ) → opened ns cs ps (d - 1) ≡ drop 1 (opened ns cs ps d)
unfolding opened
opened_drop ns cs ps zero = refl
opened_drop ns cs ps (suc d) = let e : suc d - 1 ≡ d = omega arith in rw e

next_is : (c : At) (ns cs ps : List ℕ) (change : Change) → May c change → Arrays ns cs ps
    → cursor_of (moved change c) (stored change ns c.depth c.number) (stored change cs c.depth (count_in change)) (stored change ps c.depth c.place) ≡ changed change (cursor_of c ns cs ps)
unfolding moved stored count_in changed May
next_is c ns cs ps changes.Stay m a = refl
next_is c ns cs ps (changes.On next) m a = refl
next_is c ns cs ps (changes.Open o) m a =
    let f = m.1 in
    let l₁ = a.numbers in
    let l₂ = a.counts in
    let l₃ = a.places in
    let e = opened_set ns cs ps c.depth c.number o.count.0 c.place (omega arith) (omega arith) (omega arith) in
    rw e
next_is c ns cs ps changes.Shut m a = rw (opened_drop ns cs ps c.depth)

-- ---- what a plan, carried out, leaves: the definition's cursor in its arrays

module _ (b : List ℕ) (M : Mode) (k : ℕ) (call : CursorCall) (c : At) (ns cs ps : List ℕ) (answer : Result Reply Refusal) (c' : At) (ns' cs' ps' : List ℕ)
    (m : MovesIn b k M call c ns cs ps answer c' ns' cs' ps') where
  abbrev then : calls.Cursor
  then = (cursor_step word_shape (reader b k (mode_tables M)) call (cursor_of c ns cs ps)).1

  moves_words : call_words (answer_of answer, changed m.change (cursor_of c ns cs ps)) ≡ cursor_step word_shape (reader b k (mode_tables M)) call (cursor_of c ns cs ps)
  moves_words = ap call_words m.planned.step ∙ cursor_words b k M call (cursor_of c ns cs ps)

  moves_report : call_report (answer_of answer, changed m.change (cursor_of c ns cs ps)) ≡ cursor_step (reported_shape word_shape) (reported (loose_at b) (reader b k (mode_tables M))) call (cursor_of c ns cs ps)
  moves_report = ap call_report m.planned.step ∙ cursor_report b k M call (cursor_of c ns cs ps)

  then_is : changed m.change (cursor_of c ns cs ps) ≡ then
  then_is = ap (λ x. x.1) moves_words

  moves_state : c' ≡ state_of then
  moves_state = m.applied.state ∙ state_is c ns cs ps m.change ∙ ap state_of then_is

  moves_numbers : ns' ≡ written (λ o. o.number) ns c.depth then.opened
  moves_numbers =
      m.applied.numbers ∙ array_is c ns cs ps (λ o. o.number) ns m.change
      ∙ ap (λ (x : calls.Cursor). written (λ o. o.number) ns c.depth x.opened) then_is

  moves_counts : cs' ≡ written (λ o. o.count) cs c.depth then.opened
  moves_counts =
      m.applied.counts ∙ array_is c ns cs ps (λ o. o.count) cs m.change
      ∙ ap (λ (x : calls.Cursor). written (λ o. o.count) cs c.depth x.opened) then_is

  moves_places : ps' ≡ written (λ o. o.place) ps c.depth then.opened
  moves_places =
      m.applied.places ∙ array_is c ns cs ps (λ o. o.place) ps m.change
      ∙ ap (λ (x : calls.Cursor). written (λ o. o.place) ps c.depth x.opened) then_is

  moves_next : Arrays ns cs ps → cursor_of c' ns' cs' ps' ≡ then
  moves_next full =
      let h = m.applied in
      (λ i. cursor_of (h.state i) (h.numbers i) (h.counts i) (h.places i)) ∙ next_is c ns cs ps m.change m.planned.may full ∙ then_is

-- ---- document 01's mode, behind row 1

module _ (b parts symbols : List ℕ) (k : ℕ) (call : CursorCall) (c : At) (ns cs ps : List ℕ) (answer : Result Reply Refusal) (c' : At) (ns' cs' ps' : List ℕ) where
  moves : MovesIn b k (own_mode parts symbols) call c ns cs ps answer c' ns' cs' ps' → Moves b k parts symbols call c ns cs ps answer c' ns' cs' ps'
  unfolding report_reader_in own_reader
  moves m =
      let M : Mode = own_mode parts symbols in
      record {
        exact = ap (λ x. x.0) m.planned.step;
        words = ap (λ x. x.0) (moves_words b M k call c ns cs ps answer c' ns' cs' ps' m);
        reports = ap (λ x. x.0) (moves_report b M k call c ns cs ps answer c' ns' cs' ps' m);
        state = moves_state b M k call c ns cs ps answer c' ns' cs' ps' m;
        numbers = moves_numbers b M k call c ns cs ps answer c' ns' cs' ps' m;
        counts = moves_counts b M k call c ns cs ps answer c' ns' cs' ps' m;
        places = moves_places b M k call c ns cs ps answer c' ns' cs' ps' m;
        next = moves_next b M k call c ns cs ps answer c' ns' cs' ps' m;
      }

  pub moves_front : (B : Buffer) → Silent b k parts symbols B → MovesIn B.bytes.now B.trees (mode_in B.tables) call c ns cs ps answer c' ns' cs' ps'
      → Moves b k parts symbols call c ns cs ps answer c' ns' cs' ps'
  moves_front B z m =
      let e : (B.bytes.now, B.trees, mode_in B.tables) ≡ (b, k, own_mode parts symbols) = λ i. (z.bytes i, z.trees i, z.mode i) in
      moves (subst (λ (x : List ℕ × ℕ × Mode). MovesIn x.0 x.1 x.2 call c ns cs ps answer c' ns' cs' ps') e m)

-- row 1: nothing moves
pub moves_1 : (b parts symbols : List ℕ) (k : ℕ) (call : CursorCall) (c : At) (ns cs ps : List ℕ) (r : Refusal) → Speaks k parts symbols r
    → Moves b k parts symbols call c ns cs ps (Err r) c ns cs ps
unfolding answer_of changed May moved stored count_in
moves_1 b parts symbols k call c ns cs ps r z =
    let g = z.refusal in
    moves b parts symbols k call c ns cs ps (Err r) c ns cs ps
    (record {
      change = changes.Stay;
      planned = record { step = rw g (sizes_stop b k parts symbols z.sizes call (cursor_of c ns cs ps)); may = tt };
      applied = record { state = refl; numbers = refl; counts = refl; places = refl };
    })

-- a cursor by value, whose state was handed on

pub value_is : (b parts symbols : List ℕ) (k : ℕ) (call : CursorCall) (c : Cursor) (a : At) → a ≡ at_of c → (r : Result Reply Refusal) (c' : At) (ns' cs' ps' : List ℕ)
    → Moves b k parts symbols call a c.numbers c.counts c.places r c' ns' cs' ps'
    → Moves b k parts symbols call (at_of c) c.numbers c.counts c.places r c' ns' cs' ps'
value_is b parts symbols k call c a q r c' ns' cs' ps' h = subst (λ (x : At). Moves b k parts symbols call x c.numbers c.counts c.places r c' ns' cs' ps') q h

pub ruleset value_cases = (value_is)
