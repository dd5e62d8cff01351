-- A tree of a list as a value of each sort, with the indices that it is given.
use Rattle.std.specs.Prelude.{ℕ, ◌/◌, ◌%◌, List}
use Rattle.format.specs.Width.{open_at, close_at}
use Rattle.format.specs.Part.{span_from, indexed}
use Rattle.format.specs.WordList.{word_of}
use Rattle.pack.specs.Answer.{packed_of}
use Rattle.pack.specs.declared.span.PackedSpan.{PackedSpan}
use Rattle.tree.specs.declared.raw.RawPunct.{RawPunct}
use Rattle.tree.specs.declared.raw.RawIdent.{RawIdent}
use Rattle.tree.specs.declared.raw.RawLiteral.{RawLiteral}
use Rattle.tree.specs.declared.raw.RawSubtree.{RawSubtree}

module _ (l : List ℕ) (n : ℕ) where
  abbrev pub open_span : ℕ → PackedSpan
  open_span i = packed_of (indexed i (span_from (word_of l n) open_at))

  abbrev pub close_span : ℕ → PackedSpan
  close_span i = packed_of (indexed i (span_from (word_of l n) close_at))

  abbrev pub punct_at : ℕ → RawPunct
  punct_at i = record { span = open_span i; char = word_of l n 1; spacing = word_of l n 2 }

  abbrev pub ident_at : ℕ → ℕ → RawIdent
  ident_at i y = record { span = open_span i; symbol = y; raw = word_of l n 2 }

  abbrev pub literal_at : ℕ → ℕ → RawLiteral
  literal_at i y =
      let x = word_of l n 2 in
      record { span = open_span i; symbol = y; kind = x % 256; raw_count = x / 256 % 256; suffix_len = x / 65536 }

  abbrev pub subtree_at : ℕ → ℕ → RawSubtree
  subtree_at i j = record { opening = open_span i; closing = close_span j; len = record { 0 = word_of l n 1 }; kind = word_of l n 2 }
