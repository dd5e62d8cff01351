-- Row 2 for one tree, read or given: "field out of range".
use Rattle.std.specs.Prelude.{ℕ, ◌+◌, Bool, ◌&&◌, ◌||◌, leb, eqb, if◌then◌else◌}
use Rattle.format.specs.Span.{Span}
use Rattle.format.specs.Tree.{Raw, punct, ident, literal, subtree, is_raw_kind}

-- "Start + length is at most 4,294,967,295."
abbrev pub span_fits : Span → Bool
span_fits s = leb (s.start + s.len) 4294967295

-- "scalar values: 0 to D7FF, E000 to 10FFFF hex"
abbrev pub is_scalar : ℕ → Bool
is_scalar c = leb c 0xD7FF || leb 0xE000 c && leb c 0x10FFFF

-- "spacing (0 to 2)"; "raw (0 or 1)"; "Literal kinds 0 to 10", the raw count "and the suffix length are at most 255"; "delimiter kind (0 to 3)"
abbrev pub fields : Raw → Bool
fields (punct s c x) = span_fits s && is_scalar c && leb x 2
fields (ident s i r) = span_fits s && leb r 1
fields (literal s i k r x) = span_fits s && leb k 10 && (if is_raw_kind k then leb r 255 else eqb r 0) && leb x 255
fields (subtree s t n d) = span_fits s && span_fits t && leb d 3
