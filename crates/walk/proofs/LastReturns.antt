-- One law for each return of `last_span` and its parts, with premises as the code's tests and calls give them.
use Prim.Native.Nat.{ℕ, ◌/◌, ◌<◌, ◌≤◌}
use mathlib.Core.Bool.{Bool, true, false, not}
use mathlib.Core.Path.{◌≡◌, sym, ap, ◌∙◌, subst}
use mathlib.Core.List.{List}
use native.Mathlib.Omega.{arith}
use borrow.Author.Tests.{lt-ltb, not-true}
use lib.Dec.{ltb}
use Rattle.std.specs.Prelude.{if◌then◌else◌, Option, Some, None, Result, Ok, Err}
use lib.ListN.{length}
use Rattle.format.specs.Reader.{Shape, Reader, Answer, none, one, refused, mapped}
use Rattle.format.specs.Loose.{Loose, reported_shape}
use Rattle.format.specs.Walk as steps
use Rattle.format.specs.Walk.{WalkCall, advance, skip, walk_step}
use Rattle.format.specs.Width.{part_size}
use Rattle.format.specs.Tables.{Mode, own_limits, own_mode}
use Rattle.format.specs.Buffer.{word_shape, own_reader}
use Rattle.format.specs.LastSpan.{last_after, last_tree, end_span, span_reported, last_reported}
use Rattle.format.proofs.LastSpan.{step_less, last_step}
use Rattle.format.proofs.OwnReported.{own_last_same}
use Rattle.tree.specs.Loose.{loose_of, reported_of}
use Rattle.tree.specs.declared.loose.ReportedTree.{ReportedTree}
use Rattle.tree.specs.Types.{span_list, tree_words_of}
use Rattle.tree.specs.declared.refusal.Refusal.{Refusal}
use Rattle.tree.specs.declared.types.Span.{Span}
use Rattle.tree.specs.declared.types.Punct.{Punct}
use Rattle.tree.specs.declared.types.Ident.{Ident}
use Rattle.tree.specs.declared.types.Literal.{Literal}
use Rattle.tree.specs.declared.types.Subtree.{Subtree}
use Rattle.tree.specs.declared.types.Leaf.{Leaf}
use Rattle.tree.specs.declared.types.Leaf.TheVariants as leaves
use Rattle.tree.specs.declared.types.TokenTree.{TokenTree}
use Rattle.tree.specs.declared.types.TokenTree.TheVariants as trees
use Rattle.tree.specs.Tables.{mode_in}
use Rattle.walk.specs.Source.{sizes, tree_shape, report_shape, report_reader_in, shown_report, answer_report}
use Rattle.walk.specs.Walk.{walk_of, answer_of, step_of, step_report}
use Rattle.walk.specs.Last.{last_of, last_words, LastFound, word_reader, last_in, AtLast, Goes}
use Rattle.walk.specs.declared.walk.Walk.{Walk}
use Rattle.walk.specs.declared.walk.Step.{Step}
use Rattle.walk.specs.declared.last_span.ReportedSpan.{ReportedSpan}
use Rattle.walk.specs.declared.last_span.Last.{Last}
use Rattle.walk.specs.declared.last_span.Last.TheVariants.{Found, Of}
use Rattle.walk.specs.RowOne.{Silent, Speaks}
use Rattle.walk.specs.declared.buffer.Buffer.{Buffer}
use Rattle.walk.proofs.WalkWords.{in_report, walk_report}
use Rattle.walk.proofs.WalkReturns.{leaf_flat, subtree_holds}

-- ---- one step of it

abbrev S : Shape (List ℕ × Loose)
S = reported_shape word_shape

module _ (b : List ℕ) (M : Mode) (k : ℕ) (w : Walk) where
  abbrev O : Reader (List ℕ × Loose)
  O = word_reader b k M

  abbrev past : steps.Walk
  past = (walk_step S O skip (walk_of w)).1

  after : (a : Answer (List ℕ × Loose)) → (walk_step S O skip (walk_of w)).0 ≡ a
      → last_tree S O (walk_of w) ≡ last_after S O (last_tree S O) (walk_of w) a past
  after a e = last_step S O (walk_of w) ∙ ap (λ (x : Answer (List ℕ × Loose)). last_after S O (last_tree S O) (walk_of w) x past) e

  words : (call : WalkCall) (s : Step) → step_of s ≡ walk_step report_shape (report_reader_in b k M) call (walk_of w) → step_report s ≡ walk_step S O call (walk_of w)
  words call s e = ap in_report e ∙ walk_report b k M call (walk_of w)

  -- ---- the last tree

  module _ (t : ReportedTree) (p : AtLast b k M w t) where
    over : ltb 0 past.left ≡ false
    over = ap (ltb 0) p.last

    pub into_leaf : (l : Leaf) (s : Span) (o : Bool) → o ≡ (loose_of t.loose).opening → t.tree ≡ trees.Leaf l → span_list s ≡ end_span (tree_words_of (trees.Leaf l))
        → Goes b k M w (Ok (Found (Some (record { span = s; loose = o }))))
    unfolding Goes last_of last_in
    into_leaf l s o g e f =
        let d : word_shape.is_sub (tree_words_of t.tree) ≡ false = ap tree_shape.is_sub e ∙ leaf_flat l in
        let c : last_after S O (last_tree S O) (walk_of w) (one (shown_report (reported_of t))) past ≡ one (shown_report (reported_of t)) = simp (over, d) in
        let q : span_reported (one (shown_report (reported_of t))) ≡ one (span_list s, o) =
        ap (λ (x : Bool). one (end_span (tree_words_of t.tree), if x then (loose_of t.loose).closing else (loose_of t.loose).opening)) d
        ∙ (λ i. one (sym (f ∙ ap (λ (u : TokenTree). end_span (tree_words_of u)) (sym e)) i, sym g i)) in
        sym q ∙ sym (ap span_reported (after (one (shown_report (reported_of t))) p.answer ∙ c))

    module _ (q : Subtree) (e : t.tree ≡ trees.Subtree q) where
      holds : word_shape.is_sub (tree_words_of t.tree) ≡ true
      holds = ap tree_shape.is_sub e ∙ (subtree_holds q).0

      counts : word_shape.count (tree_words_of t.tree) ≡ q.len.0
      counts = ap tree_shape.count e ∙ (subtree_holds q).1

      closes : span_list q.closing ≡ end_span (tree_words_of t.tree)
      unfolding tree_words_of
      closes = rw e

      pub into_empty : (o : Bool) → o ≡ (loose_of t.loose).closing → q.len.0 ≡ 0 → Goes b k M w (Ok (Found (Some (record { span = q.closing; loose = o }))))
      unfolding Goes last_of last_in
      into_empty o g h =
          let n : ltb 0 (word_shape.count (tree_words_of t.tree)) ≡ false = ap (ltb 0) (counts ∙ h) in
          let c : last_after S O (last_tree S O) (walk_of w) (one (shown_report (reported_of t))) past ≡ one (shown_report (reported_of t)) = simp (over, holds, n) in
          let z : span_reported (one (shown_report (reported_of t))) ≡ one (span_list q.closing, o) =
          ap (λ (x : Bool). one (end_span (tree_words_of t.tree), if x then (loose_of t.loose).closing else (loose_of t.loose).opening)) holds
          ∙ (λ i. one (sym closes i, sym g i)) in
          sym z ∙ sym (ap span_reported (after (one (shown_report (reported_of t))) p.answer ∙ c))

      pub into_on : (q.len.0 ≡ 0 → ⊥) → (s : Step) → step_of s ≡ walk_step report_shape (report_reader_in b k M) advance (walk_of w) → Goes b k M w (Ok (Of s.walk))
      unfolding Goes last_in
      into_on h s f =
          let i : 0 < word_shape.count (tree_words_of t.tree) = omega (arith, counts) in
          let n : ltb 0 (word_shape.count (tree_words_of t.tree)) ≡ true = lt-ltb _ _ i in
          let c : last_after S O (last_tree S O) (walk_of w) (one (shown_report (reported_of t))) past ≡ last_tree S O (walk_step S O advance (walk_of w)).1 = simp (over, holds, n) in
          let v : (walk_step S O advance (walk_of w)).1 ≡ walk_of s.walk = sym (ap (λ x. x.1) (words advance s f)) in
          record {
            same = ap span_reported (after (one (shown_report (reported_of t))) p.answer ∙ c ∙ ap (last_tree S O) v);
            fewer = subst (λ (x : steps.Walk). x.left < w.left) v (step_less S O (walk_of w) (shown_report (reported_of t)) p.answer).1;
          }

  -- ---- past one tree

  module _ (s : Step) (e : step_of s ≡ walk_step report_shape (report_reader_in b k M) skip (walk_of w)) where
    to : past ≡ walk_of s.walk
    to = sym (ap (λ x. x.1) (words skip s e))

    said : (walk_step S O skip (walk_of w)).0 ≡ answer_report (answer_of s.answer)
    said = sym (ap (λ x. x.0) (words skip s e))

    pub go_refused : (r : Refusal) → s.answer ≡ Err r → Goes b k M w (Err r)
    unfolding Goes last_of last_in answer_report answer_of
    go_refused r q = sym (ap span_reported (after (refused r.number r.tree) (said ∙ rw q)))

    pub go_none : s.answer ≡ Ok None → Goes b k M w (Ok (Found None))
    unfolding Goes last_of last_in answer_report answer_of
    go_none q = sym (ap span_reported (after none (said ∙ rw q)))

    module _ (t : ReportedTree) (q : s.answer ≡ Ok (Some t)) where
      tells : (walk_step S O skip (walk_of w)).0 ≡ one (shown_report (reported_of t))
      unfolding answer_report answer_of
      tells = said ∙ rw q

      pub go_on_lem : 0 < s.walk.left → Goes b k M w (Ok (Of s.walk))
      unfolding Goes last_in
      go_on_lem h =
          let n : ltb 0 past.left ≡ true = ap (λ (x : steps.Walk). ltb 0 x.left) to ∙ lt-ltb _ _ h in
          let c : last_after S O (last_tree S O) (walk_of w) (one (shown_report (reported_of t))) past ≡ last_tree S O past = simp n in
          record {
            same = ap span_reported (after (one (shown_report (reported_of t))) tells ∙ c ∙ ap (last_tree S O) to);
            fewer = subst (λ (x : steps.Walk). x.left < w.left) to (step_less S O (walk_of w) (shown_report (reported_of t)) tells).0;
          }

      pub go_last : s.walk.left ≤ 0 → AtLast b k M w t
      go_last h =
          let z : s.walk.left ≡ 0 = omega arith in
          record { answer = tells; last = ap (λ (x : steps.Walk). x.left) to ∙ z }

pub ruleset last_cases = (into_leaf, into_empty, into_on, go_refused, go_none, go_on_lem, go_last)

-- ---- the loop, at walk w

module _ (b : List ℕ) (M : Mode) (k : ℕ) (first w : Walk) (r : Result Last Refusal) (g : Goes b k M w r) where
  module _ (i : last_in b k M (walk_of first) ≡ last_in b k M (walk_of w)) where
    pub loop_refused : (a : Refusal) → r ≡ Err a → last_of (Err a) ≡ last_in b k M (walk_of first)
    unfolding Goes
    loop_refused a q = subst (Goes b k M w) q g ∙ sym i

    pub loop_found : (a : Option ReportedSpan) → r ≡ Ok (Found a) → last_of (Ok a) ≡ last_in b k M (walk_of first)
    unfolding Goes
    loop_found a q = subst (Goes b k M w) q g ∙ sym i

    pub loop_same : (v : Walk) → r ≡ Ok (Of v) → last_in b k M (walk_of first) ≡ last_in b k M (walk_of v)
    unfolding Goes
    loop_same v q = i ∙ (subst (Goes b k M w) q g).same

pub loop_fewer : (b : List ℕ) (M : Mode) (k : ℕ) (w v : Walk) → Goes b k M w (Ok (Of v)) → v.left < w.left
unfolding Goes
loop_fewer b M k w v g = g.fewer

pub ruleset loop_cases = (loop_refused, loop_found, loop_same, loop_fewer)

-- ---- document 01's mode, behind row 1

module _ (b : List ℕ) (k : ℕ) (parts symbols : List ℕ) where
  found : (w : Walk) (r : Result (Option ReportedSpan) Refusal) → last_of r ≡ last_reported b k parts symbols (walk_of w) → LastFound b k parts symbols w r
  unfolding last_words
  found w r e = record { exact = e; words = ap (mapped (λ (s : List ℕ × Bool). s.0)) e ∙ own_last_same b k parts symbols (walk_of w) }

  module _ (w : Walk) where
    pub whole_1 : (i : Refusal) → Speaks k parts symbols i → LastFound b k parts symbols w (Err i)
    unfolding last_of walk_step own_reader
    whole_1 i z =
        let f : sizes k parts symbols ≡ false = z.sizes in
        let g = z.refusal in
        let q : (walk_step S (word_reader b k (own_mode parts symbols)) skip (walk_of w)).0 ≡ refused 1 0 = simp f in
        rw g (found w (Err (record { number = 1; tree = 0 })) (sym (ap span_reported (after b (own_mode parts symbols) k w (refused 1 0) q))))

    pub whole_last : (B : Buffer) → Silent b k parts symbols B → (r : Result (Option ReportedSpan) Refusal)
        → last_of r ≡ last_in B.bytes.now B.trees (mode_in B.tables) (walk_of w) → LastFound b k parts symbols w r
    unfolding last_in own_reader
    whole_last B z r q = found w r (q ∙ (λ i. last_in (z.bytes i) (z.trees i) (z.mode i) (walk_of w)))
