-- Packing one span or one symbol at a place of a lent run: the reply and what the run holds, for every input.
use Rattle.std.specs.Prelude.{ℕ, ◌+◌, Bool, List, length, ltb, leb, if◌then◌else◌}
use Rattle.format.specs.Verdict.{Verdict, ◌and_then◌, rule, contents, Report, report}
use Rattle.format.specs.Word.{put}
use Rattle.format.specs.Span.{Span}
use Rattle.format.specs.Fields.{span_fits}
use Rattle.format.specs.Write.{heavy_bytes, span_bytes, symbol_bytes}

-- row 6: "a lent run is too short"
abbrev pub room_for : List ℕ → ℕ → List ℕ → Verdict
room_for out at vs = rule (leb (at + length vs) (length out)) 6 0

-- "The smallest fitting form is written, unless heavy is forced."
abbrev pub span_form : Bool → ℕ → Span → List ℕ
span_form heavy extra s = if heavy then heavy_bytes extra s else span_bytes extra s

-- "Packing one span or symbol: 2 (extra bits above 3, tag above 1, start + length too large), 8, 6."
-- Row 8: "to pack a span index of 2^28 or a symbol index of 2^29 or more". A report is the number of bytes written
module _ (out : List ℕ) (at : ℕ) where
  abbrev pub pack_span : Bool → ℕ → Span → Verdict
  pack_span heavy extra s =
      rule (leb extra 3) 2 0 and_then
      rule (span_fits s) 2 0 and_then
      rule (ltb s.index 268435456) 8 0 and_then
      room_for out at (span_form heavy extra s)

  abbrev pub span_report : Bool → ℕ → Span → Report
  span_report heavy extra s = report (pack_span heavy extra s) (length (span_form heavy extra s))

  abbrev pub span_packed : Bool → ℕ → Span → List ℕ
  span_packed heavy extra s = contents (pack_span heavy extra s) out (put out at (span_form heavy extra s))

  abbrev pub pack_symbol : ℕ → ℕ → Verdict
  pack_symbol tag i =
      rule (leb tag 1) 2 0 and_then
      rule (ltb i 536870912) 8 0 and_then
      room_for out at (symbol_bytes tag i)

  abbrev pub symbol_report : ℕ → ℕ → Report
  symbol_report tag i = report (pack_symbol tag i) (length (symbol_bytes tag i))

  abbrev pub symbol_packed : ℕ → ℕ → List ℕ
  symbol_packed tag i = contents (pack_symbol tag i) out (put out at (symbol_bytes tag i))
