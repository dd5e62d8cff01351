-- The replies of the definitions as values of this crate's answers, case by case.
use Rattle.std.specs.Prelude.{ℕ, ◌+◌, ◌*◌, ◌/◌, ◌%◌, Bool, ◌&&◌, ltb, Option, Some, None, Result, Ok, Err}
use Rattle.format.specs.Verdict.{Report, wrote, refusal}
use Rattle.format.specs.Span.{Span}
use Rattle.format.specs.Span as format
use Rattle.format.specs.Loose.{is_loose}
use Rattle.pack.specs.declared.span.DecodedSpan.{DecodedSpan}
use Rattle.pack.specs.declared.span.PackedSpan.{PackedSpan}
use Rattle.pack.specs.declared.span.SpanAt.{SpanAt}
use Rattle.pack.specs.declared.symbol.SymbolAt.{SymbolAt}

-- the definitions' span of a packed one, and back
abbrev pub span_of : PackedSpan → Span
span_of p = record { index = p.index; start = p.start; len = p.len }

abbrev pub packed_of : Span → PackedSpan
packed_of s = record { index = s.index; start = s.start; len = s.len }

unfoldable pub span_answer : format.SpanRead → Option SpanAt
span_answer (format.span x s n) = Some (record { span = packed_of s; extra = x; next = n })
span_answer format.SpanRead.short = None

-- with whether it is loose, of what is read at p
unfoldable pub decoded_answer : ℕ → format.SpanRead → Option DecodedSpan
decoded_answer p (format.span x s n) = Some (record { span = packed_of s; extra = x; next = n; loose = is_loose p s n })
decoded_answer p format.SpanRead.short = None

-- the refusal's number of each case, 0 for none: "A span that cannot be read ends its tree there, with 7."
abbrev pub span_number : Option DecodedSpan → ℕ
span_number (Some y) = 0
span_number None = 7

-- a span whose extra bits are those of its first word
abbrev pub span_here : ℕ → Span → ℕ → SpanAt
span_here w s n = record { span = packed_of s; extra = w % 4; next = n }

-- and a span whose numbers are those of its first word, and what other words add above its bits
abbrev pub span_above : ℕ → Span → Span
span_above w a =
    record {
      index = w / 4 % 16 + 16 * a.index;
      start = w / 32768 + 131072 * a.start;
      len = w / 64 % 256 + 256 * a.len;
    }

unfoldable pub symbol_answer : format.SymbolRead → Option SymbolAt
symbol_answer (format.symbol t i n) = Some (record { index = i; tag = t; next = n })
symbol_answer format.SymbolRead.short = None

abbrev pub symbol_number : Option SymbolAt → ℕ
symbol_number (Some y) = 0
symbol_number None = 7

-- a span and a symbol have no tree number
unfoldable pub packed_answer : Report → Result ℕ ℕ
packed_answer (wrote n) = Ok n
packed_answer (refusal r n) = Err r

abbrev pub all_below : Span → ℕ → ℕ → ℕ → Bool
all_below s i t l = ltb s.index i && ltb s.start t && ltb s.len l
