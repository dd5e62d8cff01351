-- Answer and contents of root rewriting, for every input.
use Rattle.std.specs.Prelude.{ℕ, ◌+◌, ◌≤◌, ◌<◌, ◌≡◌, List, Result, ⊤}
use Rattle.format.specs.Root.{kind_verdict, kind_after, spans_verdict, spans_after, parts_after}
use Rattle.tree.specs.Types.{words_of}
use Rattle.tree.specs.Refusal.{verdict_answer}
use Rattle.tree.specs.declared.types.Span.{Span}
use Rattle.tree.specs.declared.refusal.Refusal.{Refusal}

-- of a buffer b, k trees and a kind d: the answer, and what the buffer holds then
pub record KindSet (b : List ℕ) (k : ℕ) (parts symbols : List ℕ) (d : ℕ) (r : Result ⊤ Refusal) (b' : List ℕ) : Type 0 where
  pub answer : r ≡ verdict_answer (kind_verdict b k parts symbols d)
  pub contents : b' ≡ kind_after b k parts symbols d

-- of two spans: the answer
pub record SpansJudged (b : List ℕ) (k : ℕ) (parts symbols : List ℕ) (opening closing : Span) (r : Result ⊤ Refusal) : Type 0 where
  pub answer : r ≡ verdict_answer (spans_verdict b k parts symbols (words_of opening) (words_of closing))

-- … and what the buffer and the part words hold then
pub record SpansSet (b : List ℕ) (k : ℕ) (parts symbols : List ℕ) (opening closing : Span) (r : Result ⊤ Refusal) (b' parts' : List ℕ) : Type 0 where
  pub answer : r ≡ verdict_answer (spans_verdict b k parts symbols (words_of opening) (words_of closing))
  pub contents : b' ≡ spans_after b k parts symbols (words_of opening) (words_of closing)
  pub table : parts' ≡ parts_after b k parts symbols (words_of opening) (words_of closing)

-- what the check and row 2 have said before the spans are stored, in a buffer of so many bytes with this root index
pub record Storable (bytes root : ℕ) (opening closing : Span) : Type 0 where
  pub room : 33 ≤ bytes
  pub index : root + 1 < 268435456
  pub opens : opening.start + opening.len ≤ 4294967295
  pub closes : closing.start + closing.len ≤ 4294967295
