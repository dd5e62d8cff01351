-- Ticket 5: "both give the same bytes, length and refusal for every input". `encode_span_no_map` and `encode_span_by_form` have the contract
-- `SpanPacked`, which leaves no choice: for every run, place, span, extra bits, heavy or not, the answers and the runs afterwards are equal.
use Prim.Native.Nat.{ℕ}
use mathlib.Core.Bool.{Bool}
use mathlib.Core.Path.{◌≡◌, sym, ◌∙◌}
use mathlib.Core.List.{List}
use Rattle.std.specs.Prelude.{Result}
use Rattle.format.specs.Span.{Span}
use Rattle.pack.specs.Packing.{SpanPacked}

pub packers_agree : (run : List ℕ) (at : ℕ) (heavy : Bool) (extra : ℕ) (s : Span) (r q : Result ℕ ℕ) (by_rests by_form : List ℕ)
    → SpanPacked run at heavy extra s r by_rests → SpanPacked run at heavy extra s q by_form
    → (r ≡ q) × (by_rests ≡ by_form)
packers_agree run at heavy extra s r q by_rests by_form c d = (c.answer ∙ sym d.answer, c.contents ∙ sym d.contents)
