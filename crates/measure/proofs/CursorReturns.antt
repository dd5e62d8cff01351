-- One law for each return of the cursors' loops and their parts.
use Prim.Native.Nat.{ℕ, zero, suc, ◌+◌, ◌*◌, ◌-◌, ◌<◌, ◌≤◌}
use mathlib.Core.Bool.{Bool, true, false, ◌&&◌}
use mathlib.Core.Path.{◌≡◌, refl, sym, ap, ◌∙◌, subst}
use mathlib.Core.List.{List}
use native.Mathlib.Omega.{arith}
use borrow.Author.Tests.{le-leb, lt-leb, eq-eqb, ne_eqb}
use lib.Dec.{leb, eqb}
use lib.ListN.{replicate, length-replicate}
use Rattle.std.specs.Prelude.{Result, Ok, Err, if◌then◌else◌}
use Rattle.format.specs.Reader as format
use Rattle.format.specs.Reader.{Reader}
use Rattle.format.specs.Cursor as calls
use Rattle.format.specs.Cursor.{token_tree, bump_or_end, cursor_step}
use Rattle.format.specs.Buffer.{word_shape, own_reader}
use Rattle.tree.specs.Types.{tree_words_of}
use Rattle.tree.specs.declared.refusal.Refusal.{Refusal}
use Rattle.tree.specs.declared.loose.ReportedTree.{ReportedTree}
use Rattle.walk.specs.Source.{answer_words}
use Rattle.cursor.specs.Open.{opened, cursor_of}
use Rattle.cursor.specs.Plan.{answer_of}
use Rattle.cursor.specs.Moves.{at_of, fresh_cursor, Arrays, Moves}
use Rattle.cursor.specs.Look.{Tells}
use Rattle.cursor.specs.Run.{Held}
use Rattle.cursor.specs.declared.state.At.{At}
use Rattle.cursor.specs.declared.plan.Reply.{Reply}
use Rattle.cursor.specs.declared.plan.Reply.TheVariants.{Done, None, Tree}
use Rattle.cursor.specs.declared.cursor.Cursor.{Cursor}
use Rattle.cursor.proofs.CursorRule.{handed_is}
use Rattle.measure.specs.Sum.{plus, refused_code, and_then, none_open, over, told, moved, looked, cursor_sum}

-- ---- a look

none_open_lem : (ns cs ps : List ℕ) (d : ℕ) → none_open (opened ns cs ps d) ≡ eqb d 0
unfolding opened
none_open_lem ns cs ps zero = refl
none_open_lem ns cs ps (suc d) = let z : suc d ≡ 0 → ⊥ = λ e. absurd (omega arith) in sym (ne_eqb _ _ z)

module _ (b parts symbols : List ℕ) (k : ℕ) (c : At) (ns cs ps : List ℕ) (s : ℕ) where
  abbrev R : Reader (List ℕ)
  R = own_reader b k parts symbols

  is_over : over k (cursor_of c ns cs ps) ≡ (leb k c.number && eqb c.depth 0)
  is_over = ap (λ (x : Bool). leb k c.number && x) (none_open_lem ns cs ps c.depth)

  pub look_over : (leb k c.number && eqb c.depth 0) ≡ true → Err s ≡ looked R k (cursor_of c ns cs ps) s
  unfolding looked
  look_over h = sym (ap (λ (x : Bool). if x then Err s else told s (cursor_step word_shape R token_tree (cursor_of c ns cs ps)).0) (is_over ∙ h))

  module _ (h : (leb k c.number && eqb c.depth 0) ≡ false) (a : Result Reply Refusal) (m : Tells b k parts symbols c ns cs ps a) where
    look_told : looked R k (cursor_of c ns cs ps) s ≡ told s (answer_words (answer_of a))
    unfolding looked
    look_told =
        ap (λ (x : Bool). if x then Err s else told s (cursor_step word_shape R token_tree (cursor_of c ns cs ps)).0) (is_over ∙ h)
        ∙ ap (told s) (sym m.words)

    pub look_refused : (f : Refusal) → a ≡ Err f → (x : ℕ) → x ≡ refused_code f.number → Err x ≡ looked R k (cursor_of c ns cs ps) s
    unfolding answer_words answer_of
    look_refused f g x q = ap Err q ∙ sym (look_told ∙ ap (λ (y : Result Reply Refusal). told s (answer_words (answer_of y))) g)

    pub look_done : a ≡ Ok Done → Ok s ≡ looked R k (cursor_of c ns cs ps) s
    unfolding answer_words answer_of
    look_done g = sym (look_told ∙ ap (λ (y : Result Reply Refusal). told s (answer_words (answer_of y))) g)

    pub look_none : a ≡ Ok None → Ok s ≡ looked R k (cursor_of c ns cs ps) s
    unfolding answer_words answer_of
    look_none g = sym (look_told ∙ ap (λ (y : Result Reply Refusal). told s (answer_words (answer_of y))) g)

    pub look_tree : (t : ReportedTree) → a ≡ Ok (Tree t) → (x : ℕ) → x ≡ plus s (tree_words_of t.tree) → Ok x ≡ looked R k (cursor_of c ns cs ps) s
    unfolding answer_words answer_of
    look_tree t g x q = ap Ok q ∙ sym (look_told ∙ ap (λ (y : Result Reply Refusal). told s (answer_words (answer_of y))) g)

pub ruleset look_cases = (look_over, look_refused, look_done, look_none, look_tree)

-- ---- a step

module _ (s : ℕ) where
  pub step_refused : (f : Refusal) (x : ℕ) → x ≡ refused_code f.number → Err x ≡ moved s (answer_words (answer_of (Err f)))
  unfolding answer_words answer_of moved
  step_refused f x q = ap Err q

  pub step_done : Ok s ≡ moved s (answer_words (answer_of (Ok Done)))
  unfolding answer_words answer_of moved
  step_done = refl

  pub step_none : Ok s ≡ moved s (answer_words (answer_of (Ok None)))
  unfolding answer_words answer_of moved
  step_none = refl

  pub step_tree : (t : ReportedTree) → Ok s ≡ moved s (answer_words (answer_of (Ok (Tree t))))
  unfolding answer_words answer_of moved
  step_tree t = refl

pub ruleset after_step_cases = (step_refused, step_done, step_none, step_tree)

-- ---- a round

sum_step : (R : Reader (List ℕ)) (k all n : ℕ) (c : calls.Cursor) (s : ℕ) → n < all
    → cursor_sum R k (all - n) c s
    ≡ and_then (looked R k c s)
    (λ (t : ℕ). and_then (moved t (cursor_step word_shape R bump_or_end c).0) (cursor_sum R k (all - (n + 1)) (cursor_step word_shape R bump_or_end c).1))
unfolding cursor_sum
sum_step R k all n c s h =
    let e : all - n ≡ suc (all - (n + 1)) = omega arith in
    ap (λ (j : ℕ). cursor_sum R k j c s) e

pub fresh_sum : (R : Reader (List ℕ)) (k : ℕ) (ns cs ps : List ℕ)
    → cursor_sum R k (2 * k) calls.fresh_cursor 0 ≡ cursor_sum R k (2 * k - 0) (cursor_of (record { place = 0; number = 0; depth = 0 }) ns cs ps) 0
unfolding opened
fresh_sum R k ns cs ps = let e : 2 * k ≡ 2 * k - 0 = omega arith in ap (λ (j : ℕ). cursor_sum R k j calls.fresh_cursor 0) e

pub fresh_arrays : Arrays (replicate 256 0) (replicate 256 0) (replicate 256 0)
fresh_arrays =
    record { numbers = length-replicate {A = ℕ} 256 0; counts = length-replicate {A = ℕ} 256 0; places = length-replicate {A = ℕ} 256 0 }

-- by value
pub fresh_value : (R : Reader (List ℕ)) (k : ℕ) (c : Cursor) → c ≡ fresh_cursor
    → cursor_sum R k (2 * k) calls.fresh_cursor 0 ≡ cursor_sum R k (2 * k - 0) (cursor_of (at_of c) c.numbers c.counts c.places) 0
fresh_value R k c f =
    fresh_sum R k (replicate 256 0) (replicate 256 0) (replicate 256 0)
    ∙ ap (λ (x : Cursor). cursor_sum R k (2 * k - 0) (cursor_of (at_of x) x.numbers x.counts x.places) 0) (sym f)

pub value_arrays : (c : Cursor) → c ≡ fresh_cursor → Arrays c.numbers c.counts c.places
value_arrays c f = subst (λ (x : Cursor). Arrays x.numbers x.counts x.places) (sym f) fresh_arrays

module _ (b parts symbols : List ℕ) (k : ℕ) (c : At) (ns cs ps : List ℕ) (s n all total : ℕ)
    (i : total ≡ cursor_sum (own_reader b k parts symbols) k (all - n) (cursor_of c ns cs ps) s) where
  abbrev O : Reader (List ℕ)
  O = own_reader b k parts symbols

  pub rounds_over : all ≤ n → s ≡ total
  unfolding cursor_sum
  rounds_over h = let e : all - n ≡ 0 = omega arith in sym (i ∙ ap (λ (j : ℕ). cursor_sum O k j (cursor_of c ns cs ps) s) e)

  module _ (h : n < all) where
    abbrev rest : ℕ → ℕ
    rest t =
        and_then (moved t (cursor_step word_shape O bump_or_end (cursor_of c ns cs ps)).0)
        (cursor_sum O k (all - (n + 1)) (cursor_step word_shape O bump_or_end (cursor_of c ns cs ps)).1)

    seen : total ≡ and_then (looked O k (cursor_of c ns cs ps) s) rest
    seen = i ∙ sum_step O k all n (cursor_of c ns cs ps) s h

    pub seen_end : (x : ℕ) → Err x ≡ looked O k (cursor_of c ns cs ps) s → x ≡ total
    seen_end x e = sym (seen ∙ ap (λ (r : Result ℕ ℕ). and_then r rest) (sym e))

    module _ (x : ℕ) (e : Ok x ≡ looked O k (cursor_of c ns cs ps) s) (full : Arrays ns cs ps) (a : Result Reply Refusal) (c' : At) (ns' cs' ps' : List ℕ)
        (v : Moves b k parts symbols bump_or_end c ns cs ps a c' ns' cs' ps') where
      stepped : total ≡ and_then (moved x (answer_words (answer_of a))) (cursor_sum O k (all - (n + 1)) (cursor_of c' ns' cs' ps'))
      stepped =
          seen ∙ ap (λ (r : Result ℕ ℕ). and_then r rest) (sym e)
          ∙ ap (λ (y : format.Answer (List ℕ)). and_then (moved x y) (cursor_sum O k (all - (n + 1)) (cursor_step word_shape O bump_or_end (cursor_of c ns cs ps)).1)) (sym v.words)
          ∙ ap (λ (y : calls.Cursor). and_then (moved x (answer_words (answer_of a))) (cursor_sum O k (all - (n + 1)) y)) (sym (v.next full))

      pub step_end : (z : ℕ) → Err z ≡ moved x (answer_words (answer_of a)) → z ≡ total
      step_end z d = sym (stepped ∙ ap (λ (r : Result ℕ ℕ). and_then r (cursor_sum O k (all - (n + 1)) (cursor_of c' ns' cs' ps'))) (sym d))

      pub step_on : (z : ℕ) → Ok z ≡ moved x (answer_words (answer_of a)) → total ≡ cursor_sum O k (all - (n + 1)) (cursor_of c' ns' cs' ps') z
      step_on z d = stepped ∙ ap (λ (r : Result ℕ ℕ). and_then r (cursor_sum O k (all - (n + 1)) (cursor_of c' ns' cs' ps'))) (sym d)

-- a step leaves the arrays' lengths
pub still_full : (b parts symbols : List ℕ) (k : ℕ) (c : At) (ns cs ps : List ℕ) (a : Result Reply Refusal) (c' : At) (ns' cs' ps' : List ℕ)
    → Moves b k parts symbols bump_or_end c ns cs ps a c' ns' cs' ps' → Arrays ns cs ps → Arrays ns' cs' ps'
still_full b parts symbols k c ns cs ps a c' ns' cs' ps' v full =
    let h : Held = record { at = c; numbers = ns; counts = cs; places = ps } in
    let h' : Held = record { at = c'; numbers = ns'; counts = cs'; places = ps' } in
    (handed_is b k parts symbols bump_or_end h (answer_of a) h' full (record { answer = a; said = refl; moves = v })).1

pub ruleset cursor_sum_cases = (fresh_sum, fresh_arrays, fresh_value, value_arrays, rounds_over, seen_end, step_end, step_on, still_full)
