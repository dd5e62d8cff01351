-- One law for each return of the loops, with premises as the code's tests and calls give them.
use Prim.Native.Nat.{ℕ, suc, ◌+◌, ◌-◌, ◌%◌, ◌<◌, ◌≤◌}
use mathlib.Core.Path.{◌≡◌, sym, ap, ◌∙◌}
use mathlib.Core.List.{List}
use native.Mathlib.Omega.{arith}
use lib.ListN.{get_or}
use Rattle.std.specs.Prelude.{Some, None, Ok, Err}
use Rattle.format.specs.Width.{open_at, close_at}
use Rattle.format.specs.Part.{span_from}
use Rattle.format.specs.Reader.{Reader, Answer, none, one, refused}
use Rattle.format.specs.Walk as steps
use Rattle.format.specs.Walk.{WalkCall, walk_step}
use Rattle.format.specs.Buffer.{word_shape, own_reader}
use Rattle.tree.specs.Types.{tree_words_of}
use Rattle.tree.specs.Plain.{span_sum}
use Rattle.tree.specs.declared.refusal.Refusal.{Refusal}
use Rattle.tree.specs.declared.loose.ReportedTree.{ReportedTree}
use Rattle.tree.specs.declared.types.TokenTree.{TokenTree}
use Rattle.walk.specs.Source.{answer_words}
use Rattle.walk.specs.Walk.{walk_of, answer_of, Stepped}
use Rattle.walk.specs.declared.walk.Walk.{Walk}
use Rattle.walk.specs.declared.walk.Step.{Step}
use Rattle.measure.specs.Sum.{plus, refused_code, went, walk_sum}

pub added_is : (s : ℕ) (t : TokenTree) (w : List ℕ) → w ≡ tree_words_of t → (x y z : ℕ) → x ≡ get_or w 0 0 + get_or w 1 0 + get_or w 2 0
    → y ≡ span_sum (span_from (λ j. get_or w j 0) open_at) → z ≡ span_sum (span_from (λ j. get_or w j 0) close_at)
    → (s % 4294967296 + x + y + z) % 4294967296 ≡ plus s (tree_words_of t)
unfolding plus
added_is s t w e x y z f g h = rw (f, g, h, e)

-- ---- walks

sum_step : (R : Reader (List ℕ)) (call : WalkCall) (k n : ℕ) (w : steps.Walk) (s : ℕ) → n < k
    → walk_sum R call (k - n) w s ≡ went (walk_sum R call (k - (n + 1))) s (walk_step word_shape R call w).1 (walk_step word_shape R call w).0
unfolding walk_sum
sum_step R call k n w s h =
    let e : k - n ≡ suc (k - (n + 1)) = omega arith in
    ap (λ (m : ℕ). walk_sum R call m w s) e

pub sum_start : (R : Reader (List ℕ)) (call : WalkCall) (k : ℕ) (w : steps.Walk) (s : ℕ) → walk_sum R call k w s ≡ walk_sum R call (k - 0) w s
sum_start R call k w s = let e : k ≡ k - 0 = omega arith in ap (λ (m : ℕ). walk_sum R call m w s) e

module _ (b parts symbols : List ℕ) (k : ℕ) (call : WalkCall) (w : Walk) (s n : ℕ) (total : ℕ) (i : total ≡ walk_sum (own_reader b k parts symbols) call (k - n) (walk_of w) s) where
  module _ (h : n < k) (r : Step) (e : Stepped b k parts symbols call w r) where
    stepped : (a : Answer (List ℕ)) → answer_words (answer_of r.answer) ≡ a → total ≡ went (walk_sum (own_reader b k parts symbols) call (k - (n + 1))) s (walk_of r.walk) a
    stepped a q =
        let d = e.words in
        let d₀ : (walk_step word_shape (own_reader b k parts symbols) call (walk_of w)).0 ≡ a = sym (ap (λ x. x.0) d) ∙ q in
        let d₁ : (walk_step word_shape (own_reader b k parts symbols) call (walk_of w)).1 ≡ walk_of r.walk = sym (ap (λ x. x.1) d) in
        i ∙ sum_step (own_reader b k parts symbols) call k n (walk_of w) s h
        ∙ ap (λ (a : Answer (List ℕ)). went (walk_sum (own_reader b k parts symbols) call (k - (n + 1))) s (walk_step word_shape (own_reader b k parts symbols) call (walk_of w)).1 a) d₀
        ∙ ap (λ (v : steps.Walk). went (walk_sum (own_reader b k parts symbols) call (k - (n + 1))) s v a) d₁

    pub sum_none : r.answer ≡ Ok None → s ≡ total
    unfolding answer_words answer_of
    sum_none q = sym (stepped none (rw q))

    pub sum_refused : (f : Refusal) → r.answer ≡ Err f → (x : ℕ) → x ≡ refused_code f.number → x ≡ total
    unfolding answer_words answer_of
    sum_refused f q x g = g ∙ sym (stepped (refused f.number f.tree) (rw q))

    pub sum_on : (t : ReportedTree) → r.answer ≡ Ok (Some t) → (x : ℕ) → x ≡ plus s (tree_words_of t.tree)
        → total ≡ walk_sum (own_reader b k parts symbols) call (k - (n + 1)) (walk_of r.walk) x
    unfolding answer_words answer_of
    sum_on t q x g = stepped (one (tree_words_of t.tree)) (rw q) ∙ ap (walk_sum (own_reader b k parts symbols) call (k - (n + 1)) (walk_of r.walk)) (sym g)

  pub sum_over : k ≤ n → s ≡ total
  unfolding walk_sum
  sum_over h = let e : k - n ≡ 0 = omega arith in sym (i ∙ ap (λ (m : ℕ). walk_sum (own_reader b k parts symbols) call m (walk_of w) s) e)

pub ruleset walk_sum_cases = (sum_start, sum_none, sum_refused, sum_on, sum_over)
