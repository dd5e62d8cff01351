-- The definitions' tree with indices as a value of this crate, case by case, and back.
use Rattle.std.specs.Prelude.{ℕ, if◌then◌else◌, Result, Ok, Err}
use Rattle.format.specs.Reader.{Reply, got, bad}
use Rattle.format.specs.Tree.{Raw, punct, ident, literal, subtree}
use Rattle.format.specs.Fields.{fields}
use Rattle.pack.specs.Answer.{span_of, packed_of}
use Rattle.tree.specs.declared.raw.RawPunct.{RawPunct}
use Rattle.tree.specs.declared.raw.RawIdent.{RawIdent}
use Rattle.tree.specs.declared.raw.RawLiteral.{RawLiteral}
use Rattle.tree.specs.declared.raw.RawSubtree.{RawSubtree}
use Rattle.tree.specs.declared.raw.RawTree.{RawTree}
use Rattle.tree.specs.declared.raw.RawTree.TheVariants.{Punct, Ident, Literal, Subtree}
use Rattle.tree.specs.declared.raw.At.{At}

unfoldable pub raw_tree : Raw → RawTree
raw_tree (punct s c x) = Punct (record { span = packed_of s; char = c; spacing = x })
raw_tree (ident s i r) = Ident (record { span = packed_of s; symbol = i; raw = r })
raw_tree (literal s i k r x) = Literal (record { span = packed_of s; symbol = i; kind = k; raw_count = r; suffix_len = x })
raw_tree (subtree s t n d) = Subtree (record { opening = packed_of s; closing = packed_of t; len = record { 0 = n }; kind = d })

-- the definitions' tree of each sort
abbrev pub punct_raw : RawPunct → Raw
punct_raw p = punct (span_of p.span) p.char p.spacing

abbrev pub ident_raw : RawIdent → Raw
ident_raw p = ident (span_of p.span) p.symbol p.raw

abbrev pub literal_raw : RawLiteral → Raw
literal_raw p = literal (span_of p.span) p.symbol p.kind p.raw_count p.suffix_len

abbrev pub subtree_raw : RawSubtree → Raw
subtree_raw p = subtree (span_of p.opening) (span_of p.closing) p.len.0 p.kind

unfoldable pub raw_of : RawTree → Raw
raw_of (Punct p) = punct_raw p
raw_of (Ident p) = ident_raw p
raw_of (Literal p) = literal_raw p
raw_of (Subtree p) = subtree_raw p

abbrev pub RawAt : Type 0
RawAt = At RawTree

-- what reading one tree answers
unfoldable pub raw_answer : Reply Raw → Result RawAt ℕ
raw_answer (got t next kids) = Ok (record { tree = raw_tree t; next = next; children = record { 0 = kids } })
raw_answer (bad r) = Err r

-- a tree that was read, if its fields are in range: a close span's start may lie past every number that a field can hold
unfoldable pub in_range : Reply Raw → Reply Raw
in_range (got t next kids) = if fields t then got t next kids else bad 2
in_range (bad r) = bad r
