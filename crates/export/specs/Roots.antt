-- Root rewriting: the reply in one number, and what is lent then.
use Rattle.std.specs.Prelude.{ℕ, ◌≡◌, List, get_or}
use Rattle.format.specs.Part.{span_from}
use Rattle.format.specs.Root.{kind_verdict, kind_after, spans_verdict, spans_after, parts_after}
use Rattle.tree.specs.Refusal.{verdict_answer}
use Rattle.tree.specs.Types.{words_of, tree_span}
use Rattle.tree.specs.declared.types.Span.{Span}
use Rattle.export.specs.Replies.{verdict_code}

-- the span whose words begin at a place
abbrev pub span_in : List ℕ → ℕ → Span
span_in l at = tree_span (span_from (λ j. get_or l j 0) at)

module _ (b : List ℕ) (k : ℕ) (parts symbols : List ℕ) where
  pub record KindReplied (d : ℕ) (r : ℕ) (b' : List ℕ) : Type 0 where
    pub reply : r ≡ verdict_code (verdict_answer (kind_verdict b k parts symbols d))
    pub contents : b' ≡ kind_after b k parts symbols d

  pub record SpansReplied (opening closing : Span) (r : ℕ) (b' parts' : List ℕ) : Type 0 where
    pub reply : r ≡ verdict_code (verdict_answer (spans_verdict b k parts symbols (words_of opening) (words_of closing)))
    pub contents : b' ≡ spans_after b k parts symbols (words_of opening) (words_of closing)
    pub table : parts' ≡ parts_after b k parts symbols (words_of opening) (words_of closing)
