-- One tree of a list by its own words: its entries are the words themselves, so no tables are asked for.
use Rattle.std.specs.Prelude.{ℕ, ◌/◌, ◌%◌, Bool, ◌&&◌, leb, eqb, if◌then◌else◌, Result}
use Rattle.format.specs.Fields.{is_scalar}
use Rattle.format.specs.Width.{open_at, close_at}
use Rattle.format.specs.Part.{span_from}
use Rattle.format.specs.Root.{range_fits}
use Rattle.format.specs.WordList.{raw_from, word_fields}
use Rattle.tree.specs.Raw.{raw_tree}
use Rattle.tree.specs.Types.{spacing_of, is_raw_of, delimiter_of, lit_kind_of, words_of, tree_span}
use Rattle.tree.specs.declared.types.Span.{Span}
use Rattle.tree.specs.declared.types.LitKind.{LitKind}
use Rattle.tree.specs.declared.types.LitKind.TheVariants.{StrRaw, ByteStrRaw, CStrRaw, Byte, Char, Integer, Float, Str, ByteStr, CStr, Err}
use Rattle.tree.specs.declared.types.Leaf.TheVariants as leaves
use Rattle.tree.specs.declared.types.TokenTree.{TokenTree}
use Rattle.tree.specs.declared.types.TokenTree.TheVariants as trees
use Rattle.tree.specs.declared.raw.RawTree.{RawTree}
use Rattle.std.specs.declared.result.Result.TheVariants as results

-- "Word 0: 0 punct, 1 ident, 2 literal, 3 subtree. Words 1, 2: punct character, spacing; ident symbol, raw;
-- literal symbol, then kind + 256 × raw count + 65,536 × suffix length; subtree descendant count, delimiter kind"
module _ (x y : ℕ) (s : Span) where
  abbrev pub punct_from : TokenTree
  punct_from = trees.Leaf (leaves.Punct (record { char = x; spacing = spacing_of y; span = s }))

  abbrev pub ident_from : TokenTree
  ident_from = trees.Leaf (leaves.Ident (record { sym = x; span = s; is_raw = is_raw_of y }))

  abbrev pub literal_from : TokenTree
  literal_from = trees.Leaf (leaves.Literal (record { text_and_suffix = x; span = s; kind = lit_kind_of (y % 256) (y / 256 % 256); suffix_len = y / 65536 }))

  abbrev pub subtree_from : Span → TokenTree
  subtree_from t = trees.Subtree (record { opening = s; closing = t; len = record { 0 = x }; kind = delimiter_of y })

-- "Words 3 to 7: the span, or the opening one"; "Words 8 to 12: the closing span"
unfoldable pub tree_from : (ℕ → ℕ) → TokenTree
tree_from w =
    let s = tree_span (span_from w open_at) in
    if eqb (w 0) 0 then punct_from (w 1) (w 2) s else
    (if eqb (w 0) 1 then ident_from (w 1) (w 2) s else
    (if eqb (w 0) 2 then literal_from (w 1) (w 2) s else
    subtree_from (w 1) (w 2) s (tree_span (span_from w close_at))))

-- row 2 first
unfoldable pub words_answer : (ℕ → ℕ) → Result TokenTree ℕ
words_answer w = if word_fields w then results.Ok (tree_from w) else results.Err 2

-- the same with the indices of its open and close part and of its symbol
unfoldable pub raw_words_answer : ℕ → ℕ → ℕ → (ℕ → ℕ) → Result RawTree ℕ
raw_words_answer o c y w = if word_fields w then results.Ok (raw_tree (raw_from o c y w)) else results.Err 2

-- ---- row 2 of the source's tree: what its types leave open

unfoldable pub raw_count_of : LitKind → ℕ
raw_count_of Byte = 0
raw_count_of Char = 0
raw_count_of Integer = 0
raw_count_of Float = 0
raw_count_of Str = 0
raw_count_of (StrRaw r) = r
raw_count_of ByteStr = 0
raw_count_of (ByteStrRaw r) = r
raw_count_of CStr = 0
raw_count_of (CStrRaw r) = r
raw_count_of Err = 0

abbrev pub end_fits : Span → Bool
end_fits s = range_fits (words_of s)

unfoldable pub token_fits : TokenTree → Bool
token_fits (trees.Leaf (leaves.Punct p)) = end_fits p.span && is_scalar p.char
token_fits (trees.Leaf (leaves.Ident p)) = end_fits p.span
token_fits (trees.Leaf (leaves.Literal p)) = end_fits p.span && leb (raw_count_of p.kind) 255 && leb p.suffix_len 255
token_fits (trees.Subtree p) = end_fits p.opening && end_fits p.closing
