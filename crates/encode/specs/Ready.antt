-- What the functions that store a tree ask of it: what rows 2 and 8 leave of each sort, and the limits of a form.
use Rattle.std.specs.Prelude.{ℕ, ◌+◌, ◌-◌, ◌≤◌, ◌<◌, length}
use Rattle.format.specs.Span.{Span}
use Rattle.format.specs.Write.{span_bytes, symbol_bytes}
use Rattle.pack.specs.Answer.{span_of}
use Rattle.tree.specs.declared.raw.RawPunct.{RawPunct}
use Rattle.tree.specs.declared.raw.RawIdent.{RawIdent}
use Rattle.tree.specs.declared.raw.RawLiteral.{RawLiteral}
use Rattle.tree.specs.declared.raw.RawSubtree.{RawSubtree}

-- the bytes that a span and a symbol take: neither turns on the extra bits or the tag bit
abbrev pub span_size : Span → ℕ
span_size s = length (span_bytes 0 s)

abbrev pub symbol_size : ℕ → ℕ
symbol_size i = length (symbol_bytes 0 i)

-- "The span's length is the distance."
abbrev pub distance_span : RawSubtree → Span
distance_span p = record { index = p.opening.index; start = p.opening.start; len = p.closing.start - p.opening.start }

pub record SpanReady (s : Span) : Type 0 where
  pub ends : s.start + s.len ≤ 4294967295
  pub part : s.index < 268435456

pub record PunctReady (p : RawPunct) : Type 0 where
  pub span : SpanReady (span_of p.span)
  pub spacing : p.spacing ≤ 2

pub record IdentReady (p : RawIdent) : Type 0 where
  pub span : SpanReady (span_of p.span)
  pub symbol : p.symbol < 536870912
  pub raw : p.raw ≤ 1

pub record LiteralReady (p : RawLiteral) : Type 0 where
  pub span : SpanReady (span_of p.span)
  pub symbol : p.symbol < 536870912
  pub kind : p.kind ≤ 10
  pub count : p.raw_count ≤ 255
  pub suffix : p.suffix_len ≤ 255

pub record SubtreeReady (p : RawSubtree) : Type 0 where
  pub opening : SpanReady (span_of p.opening)
  pub closing : SpanReady (span_of p.closing)
  pub kind : p.kind ≤ 3

-- a subtree of few descendants whose close span starts not far behind its open one
pub record Within (p : RawSubtree) (kids far many : ℕ) : Type 0 where
  pub order : p.opening.start ≤ p.closing.start
  pub distance : p.closing.start - p.opening.start ≤ far
  pub count : p.len.0 ≤ 255
  pub bytes : kids ≤ many
