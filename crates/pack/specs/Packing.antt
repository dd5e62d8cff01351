-- Answer and contents of packing, for every input.
use Rattle.std.specs.Prelude.{ℕ, ◌≡◌, Bool, List, map, length, Result}
use Rattle.format.specs.Verdict.{report}
use Rattle.format.specs.Verdict as verdict
use Rattle.format.specs.Word.{word_bytes, put}
use Rattle.format.specs.Span.{Span}
use Rattle.format.specs.Write.{join}
use Rattle.format.specs.Pack.{room_for, span_report, span_packed, symbol_report, symbol_packed}
use Rattle.pack.specs.Answer.{packed_answer}

pub record SpanPacked (b : List ℕ) (at : ℕ) (heavy : Bool) (extra : ℕ) (s : Span) (r : Result ℕ ℕ) (b' : List ℕ) : Type 0 where
  pub answer : r ≡ packed_answer (span_report b at heavy extra s)
  pub contents : b' ≡ span_packed b at heavy extra s

pub record SymbolPacked (b : List ℕ) (at tag i : ℕ) (r : Result ℕ ℕ) (b' : List ℕ) : Type 0 where
  pub answer : r ≡ packed_answer (symbol_report b at tag i)
  pub contents : b' ≡ symbol_packed b at tag i

-- words one behind the other
abbrev pub words_bytes : List ℕ → List ℕ
words_bytes ws = join (map word_bytes ws)

-- bytes that are in bounds: only row 6 is left
pub record Stored (b : List ℕ) (at : ℕ) (vs : List ℕ) (r : Result ℕ ℕ) (b' : List ℕ) : Type 0 where
  pub answer : r ≡ packed_answer (report (room_for b at vs) (length vs))
  pub contents : b' ≡ verdict.contents (room_for b at vs) b (put b at vs)
