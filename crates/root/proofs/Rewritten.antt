-- What the answers of root rewriting mean: after `Ok` the buffer is admitted again and reads as the same list with the new root; a refusal changes nothing.
use Prim.Native.Nat.{ℕ, ◌≤◌}
use mathlib.Core.Bool.{true, ◌&&◌}
use mathlib.Core.Path.{◌≡◌, sym, ap, ◌∙◌, subst}
use mathlib.Core.List.{List}
use borrow.Author.Tests.{le-leb}
use Rattle.std.specs.Prelude.{Result, Ok, Err, ⊤}
use Rattle.format.specs.Verdict.{passed}
use Rattle.format.specs.Check.{listing}
use Rattle.format.specs.Buffer.{word_shape, own_reader, buffer_check}
use Rattle.format.specs.Root.{range_fits, kind_verdict, spans_verdict, OnlyKind, OnlySpans, with_kind, with_spans, RootOnly}
use Rattle.format.proofs.RootKind.{kind_rewritten, kind_passes, kind_refused, kind_bytes, kind_fits}
use Rattle.format.proofs.RootSpans.{spans_rewritten, spans_passes, spans_refused, spans_bytes, spans_fit}
use Rattle.tree.specs.Refusal.{verdict_answer}
use Rattle.tree.specs.Types.{words_of}
use Rattle.tree.proofs.Answers.{answer_passed, answer_refused}
use Rattle.tree.specs.declared.refusal.Refusal.{Refusal}
use Rattle.tree.specs.declared.types.Span.{Span}
use Rattle.root.specs.Rewrite.{KindSet, SpansSet}

-- ---- set_top_subtree_delimiter_kind: its answer r, and the buffer b' that it leaves

module _ (b : List ℕ) (k : ℕ) (parts symbols : List ℕ) (d : ℕ) (r : Result ⊤ Refusal) (b' : List ℕ) (s : KindSet b k parts symbols d r b') where
  module _ (q : r ≡ Ok tt) where
    passes : kind_verdict b k parts symbols d ≡ passed
    passes = answer_passed (kind_verdict b k parts symbols d) (sym s.answer ∙ q)

    -- word 2 of the root is the new kind, all else is read as before
    pub kind_reads : RootOnly (own_reader b k parts symbols) (own_reader b' k parts symbols) (with_kind d ((listing word_shape (own_reader b k parts symbols)).tree 0))
    kind_reads =
        subst (λ (x : List ℕ). RootOnly (own_reader b k parts symbols) (own_reader x k parts symbols) (with_kind d ((listing word_shape (own_reader b k parts symbols)).tree 0)))
        (sym s.contents) (kind_rewritten b k parts symbols d passes)

    -- what `check_buffer` answers then
    pub kind_checks : (z : Result ⊤ Refusal) → z ≡ verdict_answer (buffer_check b' k parts symbols) → z ≡ Ok tt
    unfolding verdict_answer
    kind_checks z e =
        e ∙ ap (λ (x : List ℕ). verdict_answer (buffer_check x k parts symbols)) s.contents ∙ ap verdict_answer (kind_passes b k parts symbols d passes)

  pub kind_kept : (x : Refusal) → r ≡ Err x → b' ≡ b
  kind_kept x q =
      s.contents ∙ kind_refused b k parts symbols d x.number x.tree (answer_refused (kind_verdict b k parts symbols d) x (sym s.answer ∙ q))

  -- for every input
  pub kind_only : OnlyKind b b'
  kind_only = subst (OnlyKind b) (sym s.contents) (kind_bytes b k parts symbols d)

  -- it is not refused without a cause
  pub kind_set : buffer_check b k parts symbols ≡ passed → d ≤ 3 → r ≡ Ok tt
  unfolding verdict_answer
  kind_set ok h = s.answer ∙ ap verdict_answer (kind_fits b k parts symbols d ok (le-leb d 3 h))

-- ---- set_top_subtree_delimiter_span: its answer r, the buffer b' and the part words p that it leaves

module _ (b : List ℕ) (k : ℕ) (parts symbols : List ℕ) (o c : Span) (r : Result ⊤ Refusal) (b' p : List ℕ) (s : SpansSet b k parts symbols o c r b' p) where
  module _ (q : r ≡ Ok tt) where
    fits : spans_verdict b k parts symbols (words_of o) (words_of c) ≡ passed
    fits = answer_passed (spans_verdict b k parts symbols (words_of o) (words_of c)) (sym s.answer ∙ q)

    -- the root's spans are the new ones, all else is read as before
    pub spans_reads : RootOnly (own_reader b k parts symbols) (own_reader b' k p symbols)
        (with_spans (words_of o) (words_of c) ((listing word_shape (own_reader b k parts symbols)).tree 0))
    spans_reads =
        let e = s.contents in
        let f = s.table in
        rw (e, f) (spans_rewritten b k parts symbols (words_of o) (words_of c) fits)

    pub spans_checks : (z : Result ⊤ Refusal) → z ≡ verdict_answer (buffer_check b' k p symbols) → z ≡ Ok tt
    unfolding verdict_answer
    spans_checks z e =
        e ∙ (λ i. verdict_answer (buffer_check (s.contents i) k (s.table i) symbols)) ∙ ap verdict_answer (spans_passes b k parts symbols (words_of o) (words_of c) fits)

  pub spans_kept : (x : Refusal) → r ≡ Err x → (b' ≡ b) × (p ≡ parts)
  spans_kept x q =
      let v = answer_refused (spans_verdict b k parts symbols (words_of o) (words_of c)) x (sym s.answer ∙ q) in
      let u = spans_refused b k parts symbols (words_of o) (words_of c) x.number x.tree v in
      (s.contents ∙ u.0, s.table ∙ u.1)

  -- for every input
  pub spans_only : OnlySpans b b' parts p
  spans_only =
      let e = s.contents in
      let f = s.table in
      rw (e, f) (spans_bytes b k parts symbols (words_of o) (words_of c))

  -- it is not refused without a cause
  pub spans_set : buffer_check b k parts symbols ≡ passed → (range_fits (words_of o) && range_fits (words_of c)) ≡ true → r ≡ Ok tt
  unfolding verdict_answer
  spans_set ok h = s.answer ∙ ap verdict_answer (spans_fit b k parts symbols (words_of o) (words_of c) ok h)
