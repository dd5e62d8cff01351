-- One law for each return and call of the functions that list a buffer and a bundle.
use Prim.Native.Nat.{ℕ, ◌+◌, ◌-◌, ◌≤◌, ◌<◌}
use mathlib.Core.Path.{◌≡◌, sym, ap, ◌∙◌, subst}
use mathlib.Core.List.{List}
use native.Mathlib.Omega.{arith}
use borrow.Author.Tests.{lt-ltb, le-ltb, eq-eqb, ne_eqb}
use lib.Dec.{eqb}
use lib.ListN.{length, take, drop}
use lib.Seq.{length-take-le}
use Rattle.std.specs.Prelude.{if◌then◌else◌, Option, Some, None, Result, Ok, Err, ⊤}
use Rattle.format.specs.Verdict as format
use Rattle.format.specs.Tree.{Raw}
use Rattle.format.specs.Nest.{still_open}
use Rattle.format.proofs.OpenEnds.{open_ends, open_length}
use Rattle.format.specs.Check.{check}
use Rattle.format.specs.Buffer.{raw_shape, size_reader}
use Rattle.format.specs.Bundle.{bundle_at, check_of}
use Rattle.format.specs.Lister.{refusal_line, header, line, bundle_text, lister_text}
use Rattle.lister.specs.Counts.{IsPrefixLen}
use Rattle.text.specs.Typed.{Typed}
use Rattle.text.proofs.Typed.{next_inside, typed_then, typed_as, typed_whole}
use Rattle.tree.specs.Refusal.{verdict_answer}
use Rattle.tree.proofs.Answers.{answer_passed, answer_refused}
use Rattle.tree.specs.declared.refusal.Refusal.{Refusal}
use Rattle.bundle.specs.Answer.{read_answer}
use Rattle.bundle.specs.declared.read.Contents.{Contents}
use Rattle.bundle.proofs.Told.{rest_of, told, is_bad, start_inside}
use Rattle.lister.specs.BySizes.{sort_of, size_lines, size_loose, size_listing, or_refusal, sizes_text}
use Rattle.lister.specs.Ends.{Closed, push, Opens, Pushed, Follows}
use Rattle.lister.specs.TreePut.{TreePut}
use Rattle.lister.proofs.Listed.{listed_none, listed_inside, listed_kept, listed_few, listed_all, listed_bad, listed_follows, listed_next}
use Rattle.lister.proofs.Counted.{counted_none, counted_fits, counted_bad, counted_next, counted_all}
use Rattle.lister.proofs.Length.{refusal_few, passed_few}
use Rattle.lister.proofs.BySizes.{bundle_text_lem}

-- ---- put_tree

module _ (ends : List ℕ) (depth n : ℕ) (t : Raw) (f : Follows ends depth n t) where
  pub tree_few : depth ≤ 256
  tree_few = f.few

  module _ (a : ℕ) (c : Closed ends depth n a) where
    around_is : a ≡ length (still_open n (open_ends ends depth))
    around_is = sym (open_length ends a) ∙ ap length c.left

    pub tree_less : a ≤ 256
    tree_less = let h = c.fewer in let g = f.few in omega arith

    pub tree_opens : Opens ends a n t
    tree_opens = record { size = f.size; few = tree_less; room = λ s. let h = f.room s in let e = around_is in omega arith; end = f.end }

    pub tree_put : (out out' ends' : List ℕ) (at m first next d : ℕ) → m ≡ n → Typed out at (line m first (a + 1) (sort_of t)) next out' → Pushed ends a n t d ends'
        → TreePut out at ends depth n first t (record { next = next; depth = d }) out' ends'
    tree_put out out' ends' at m first next d e u p =
        record {
          size = p.size;
          few = p.few;
          left = p.left ∙ ap (push n t) c.left;
          text = typed_as out out' at next _ _ (ap (λ i. line i first (a + 1) (sort_of t)) e ∙ ap (λ i. line n first (i + 1) (sort_of t)) around_is) u;
        }

pub ruleset tree_cases = (tree_few, tree_less, tree_opens, tree_put)

-- ---- put_lines

pub ruleset lines_cases = (listed_none, listed_inside, listed_kept, listed_few, listed_all, listed_bad, listed_follows, listed_next)

-- ---- below_root, loose_below

pub root_none : (n spans : ℕ) → n ≡ 0 → 0 ≡ (if eqb n 0 then 0 else spans)
root_none n spans e = simp (eq-eqb n 0 e)

pub below_all : (n spans : ℕ) → (n ≡ 0 → ⊥) → spans ≡ (if eqb n 0 then 0 else spans)
below_all n spans h = simp (ne_eqb n 0 h)

pub ruleset loose_cases = (root_none, below_all, counted_none, counted_fits, counted_bad, counted_next, counted_all)

-- ---- list_buffer

module _ (b : List ℕ) (k p y : ℕ) (z : Result ⊤ Refusal) (e : z ≡ verdict_answer (check raw_shape (size_reader b k p y))) where
  module _ (x : Refusal) (q : z ≡ Err x) (m t : ℕ) (f : m ≡ x.number) (g : t ≡ x.tree) where
    refused_is : refusal_line m t ≡ sizes_text b k p y
    unfolding sizes_text
    refused_is =
        let v = answer_refused (check raw_shape (size_reader b k p y)) x (sym e ∙ q) in
        ap (λ i. refusal_line i t) f ∙ ap (refusal_line x.number) g ∙ sym (ap (λ w. or_refusal w (size_listing b k p y)) v)

    pub buffer_refused : (o o' : List ℕ) (at r : ℕ) → Typed o at (refusal_line m t) r o' → Typed o at (sizes_text b k p y) r o'
    buffer_refused o o' at r u = typed_as o o' at r _ _ refused_is u

    pub refused_short : m < 4294967296 → t < 4294967296 → length (sizes_text b k p y) ≤ 327755
    refused_short i j = let l = refusal_few m t i j in let d = ap length refused_is in omega arith

  module _ (q : z ≡ Ok tt) where
    pub buffer_passes : check raw_shape (size_reader b k p y) ≡ format.passed
    buffer_passes = answer_passed (check raw_shape (size_reader b k p y)) (sym e ∙ q)

    passed_is : size_listing b k p y ≡ sizes_text b k p y
    unfolding sizes_text
    passed_is = sym (ap (λ w. or_refusal w (size_listing b k p y)) buffer_passes)

    pub buffer_passed : (m x : ℕ) (o o₁ o₂ : List ℕ) (at r₁ r₂ : ℕ) → m ≡ k → x ≡ size_loose b k p y → Typed o at (header m (length b) p y x) r₁ o₁
        → Typed o₁ r₁ (size_lines b k p y) r₂ o₂ → Typed o at (sizes_text b k p y) r₂ o₂
    buffer_passed m x o o₁ o₂ at r₁ r₂ f g u v =
        let w = typed_as o o₁ at r₁ _ _ (ap (λ i. header i (length b) p y x) f ∙ ap (header k (length b) p y) g) u in
        typed_as o o₂ at r₂ _ _ passed_is (typed_then o o₁ at r₁ (header k (length b) p y (size_loose b k p y)) w o₂ r₂ (size_lines b k p y) v)

    pub passed_short : length b ≤ 65536 → length (sizes_text b k p y) ≤ 327755
    passed_short h = let l = passed_few b k p y buffer_passes h in let d = ap length passed_is in omega arith

pub ruleset buffer_cases = (buffer_refused, refused_short, buffer_passes, buffer_passed, passed_short, next_inside)

-- ---- list_bundle

one_short : length (refusal_line 1 0) ≤ 327755
one_short = let l = refusal_few 1 0 (omega arith) (omega arith) in omega arith

module _ (b : List ℕ) where
  module _ (h : 65536 < length b) where
    over_is : refusal_line 1 0 ≡ lister_text b
    over_is = let l = lt-ltb 65536 (length b) h in simp l

    pub over_text : (o o' : List ℕ) (at r : ℕ) → Typed o at (refusal_line 1 0) r o' → Typed o at (lister_text b) r o'
    over_text o o' at r u = typed_as o o' at r _ _ over_is u

    pub over_short : length (lister_text b) ≤ 327755
    over_short = subst (λ (x : List ℕ). length x ≤ 327755) over_is one_short

  module _ (h : length b ≤ 65536) (r : Option Contents) (e : r ≡ read_answer b (bundle_at b)) where
    module _ (q : r ≡ None) where
      bad_is : refusal_line 1 0 ≡ lister_text b
      bad_is =
          let l = le-ltb 65536 (length b) h in
          let d : lister_text b ≡ bundle_text (bundle_at b) (check_of (bundle_at b)) = simp l in
          sym (d ∙ ap (λ x. bundle_text x (check_of x)) (is_bad b r e q))

      pub bad_text : (o o' : List ℕ) (at n : ℕ) → Typed o at (refusal_line 1 0) n o' → Typed o at (lister_text b) n o'
      bad_text o o' at n u = typed_as o o' at n _ _ bad_is u

      pub bad_short : length (lister_text b) ≤ 327755
      bad_short = subst (λ (x : List ℕ). length x ≤ 327755) bad_is one_short

    module _ (x : Contents) (q : r ≡ Some x) where
      abbrev bytes : List ℕ
      bytes = take (length b - x.start) (drop x.start b)

      text_is : sizes_text bytes x.trees x.parts x.symbols ≡ lister_text b
      text_is =
          let t = told b r e x q in
          ap (λ s. sizes_text s x.trees x.parts x.symbols) (rest_of b x.start) ∙ sym (bundle_text_lem b x t.0 t.1 h)

      pub bundle_listed : (o o' : List ℕ) (at n : ℕ) → Typed o at (sizes_text bytes x.trees x.parts x.symbols) n o' → Typed o at (lister_text b) n o'
      bundle_listed o o' at n u = typed_as o o' at n _ _ text_is u

      pub bundle_short : length (sizes_text bytes x.trees x.parts x.symbols) ≤ 327755 → length (lister_text b) ≤ 327755
      bundle_short l = subst (λ (z : List ℕ). length z ≤ 327755) text_is l

pub ruleset list_cases = (over_text, over_short, bad_text, bad_short, start_inside, bundle_listed, bundle_short)

-- ---- list_all

pub all_counts : (b b' vs : List ℕ) (r : ℕ) → Typed b 0 vs r b' → IsPrefixLen r b'
all_counts b b' vs r t = let h = next_inside b b' 0 r vs t in (h, sym (length-take-le r b' h))

pub all_whole : (b b' vs : List ℕ) (r : ℕ) → Typed b 0 vs r b' → length vs ≤ 327755 → 327755 ≤ length b → take r b' ≡ vs
all_whole b b' vs r t h k = typed_whole b b' vs r t (omega arith)

pub ruleset all_cases = (all_counts, all_whole)
