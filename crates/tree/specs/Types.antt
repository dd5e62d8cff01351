-- The source's kinds of numbers; its tree of a tree with indices, by the entries of the tables; and the list words of such a tree.
use Rattle.std.specs.Prelude.{ℕ, ◌+◌, ◌*◌, ◌%◌, List, ◌∷◌, ◌++◌, get_or, ◌&&◌, leb, eqb, if◌then◌else◌, Result}
use Rattle.format.specs.Tree.{is_raw_kind, Raw, punct, ident, literal, subtree}
use Rattle.format.specs.Span as format
use Rattle.format.specs.Part as words
use Rattle.format.specs.Part.{Part, WordSpan, no_span}
use Rattle.format.specs.Tables.{Mode, entry_at}
use Rattle.tree.specs.declared.types.Span.{Span}
use Rattle.tree.specs.declared.types.Spacing.{Spacing}
use Rattle.tree.specs.declared.types.Spacing.TheVariants.{Alone, Joint, JointHidden}
use Rattle.tree.specs.declared.types.IdentIsRaw.{IdentIsRaw}
use Rattle.tree.specs.declared.types.IdentIsRaw.TheVariants.{No, Yes}
use Rattle.tree.specs.declared.types.DelimiterKind.{DelimiterKind}
use Rattle.tree.specs.declared.types.DelimiterKind.TheVariants.{Parenthesis, Brace, Bracket, Invisible}
use Rattle.tree.specs.declared.types.LitKind.{LitKind}
use Rattle.tree.specs.declared.types.LitKind.TheVariants.{Byte, Char, Integer, Float, Str, StrRaw, ByteStr, ByteStrRaw, CStr, CStrRaw, Err}
use Rattle.tree.specs.declared.types.Subtree.{Subtree}
use Rattle.tree.specs.declared.types.Leaf.{Leaf}
use Rattle.tree.specs.declared.types.Leaf.TheVariants as leaves
use Rattle.tree.specs.declared.types.TokenTree.{TokenTree}
use Rattle.tree.specs.declared.types.TokenTree.TheVariants as trees
use Rattle.std.specs.declared.result.Result.TheVariants as results

-- ---- from numbers that are in range

unfoldable pub spacing_of : ℕ → Spacing
spacing_of x = if eqb x 0 then Alone else (if eqb x 1 then Joint else JointHidden)

unfoldable pub is_raw_of : ℕ → IdentIsRaw
is_raw_of x = if eqb x 0 then No else Yes

unfoldable pub delimiter_of : ℕ → DelimiterKind
delimiter_of d = if eqb d 0 then Parenthesis else (if eqb d 1 then Brace else (if eqb d 2 then Bracket else Invisible))

-- kind, raw count
unfoldable pub lit_kind_of : ℕ → ℕ → LitKind
lit_kind_of k r =
    if eqb k 0 then Byte else
    (if eqb k 1 then Char else
    (if eqb k 2 then Integer else
    (if eqb k 3 then Float else
    (if eqb k 4 then Str else
    (if eqb k 5 then StrRaw r else
    (if eqb k 6 then ByteStr else
    (if eqb k 7 then ByteStrRaw r else
    (if eqb k 8 then CStr else
    (if eqb k 9 then CStrRaw r else Err)))))))))

-- ---- from any number: "`transmute`: a match with refusal 2"

-- "spacing (0 to 2)"
unfoldable pub spacing_answer : ℕ → Result Spacing ℕ
spacing_answer x = if leb x 2 then results.Ok (spacing_of x) else results.Err 2

-- "raw (0 or 1)"
unfoldable pub is_raw_answer : ℕ → Result IdentIsRaw ℕ
is_raw_answer x = if leb x 1 then results.Ok (is_raw_of x) else results.Err 2

-- "delimiter kind (0 to 3)"
unfoldable pub delimiter_answer : ℕ → Result DelimiterKind ℕ
delimiter_answer d = if leb d 3 then results.Ok (delimiter_of d) else results.Err 2

-- "Literal kinds 0 to 10", "The raw count is zero except for kinds 5, 7, 9; it and the suffix length are at most 255."
unfoldable pub lit_kind_answer : ℕ → ℕ → Result LitKind ℕ
lit_kind_answer k r = if leb k 10 && (if is_raw_kind k then leb r 255 else eqb r 0) then results.Ok (lit_kind_of k r) else results.Err 2

-- ---- the definitions' span of the source's, and back

abbrev pub words_of : Span → WordSpan
words_of s = record { part = record { file = s.file; ast = s.ast_id; context = s.context }; start = s.start; len = s.len }

abbrev pub tree_span : WordSpan → Span
tree_span s =
    record {
      file = s.part.file;
      ast_id = s.part.ast;
      context = s.part.context;
      start = s.start;
      len = s.len;
    }

-- ---- by the entries of the tables

-- a packed span of this part
abbrev pub span_with : Part → format.Span → Span
span_with p s = tree_span (record { part = p; start = s.start; len = s.len })

abbrev pub punct_with : Part → format.Span → ℕ → ℕ → Leaf
punct_with p s c x = leaves.Punct (record { char = c; spacing = spacing_of x; span = span_with p s })

abbrev pub ident_with : Part → List ℕ → format.Span → ℕ → ℕ → Leaf
ident_with p symbols s i r = leaves.Ident (record { sym = get_or symbols i 0; span = span_with p s; is_raw = is_raw_of r })

abbrev pub literal_with : Part → List ℕ → format.Span → ℕ → ℕ → ℕ → ℕ → Leaf
literal_with p symbols s i k r x =
    leaves.Literal (record { text_and_suffix = get_or symbols i 0; span = span_with p s; kind = lit_kind_of k r; suffix_len = x })

abbrev pub subtree_with : Part → Part → format.Span → format.Span → ℕ → ℕ → Subtree
subtree_with p q s t n d = record { opening = span_with p s; closing = span_with q t; len = record { 0 = n }; kind = delimiter_of d }

-- tree n with its indices looked up
unfoldable pub resolved : Mode → ℕ → Raw → TokenTree
resolved M n (punct s c x) = trees.Leaf (punct_with (entry_at M n s.index) s c x)
resolved M n (ident s i r) = trees.Leaf (ident_with (entry_at M n s.index) M.symbols s i r)
resolved M n (literal s i k r x) = trees.Leaf (literal_with (entry_at M n s.index) M.symbols s i k r x)
resolved M n (subtree s t c d) = trees.Subtree (subtree_with (entry_at M n s.index) (entry_at M n t.index) s t c d)

-- ---- list words

unfoldable pub spacing_word : Spacing → ℕ
spacing_word Alone = 0
spacing_word Joint = 1
spacing_word JointHidden = 2

unfoldable pub is_raw_word : IdentIsRaw → ℕ
is_raw_word No = 0
is_raw_word Yes = 1

unfoldable pub delimiter_word : DelimiterKind → ℕ
delimiter_word Parenthesis = 0
delimiter_word Brace = 1
delimiter_word Bracket = 2
delimiter_word Invisible = 3

-- kind + 256 × raw count
unfoldable pub lit_kind_word : LitKind → ℕ
lit_kind_word Byte = 0
lit_kind_word Char = 1
lit_kind_word Integer = 2
lit_kind_word Float = 3
lit_kind_word Str = 4
lit_kind_word (StrRaw r) = 5 + 256 * r
lit_kind_word ByteStr = 6
lit_kind_word (ByteStrRaw r) = 7 + 256 * r
lit_kind_word CStr = 8
lit_kind_word (CStrRaw r) = 9 + 256 * r
lit_kind_word Err = 10

abbrev pub span_list : Span → List ℕ
span_list s = words.span_list (words_of s)

-- "zero in a leaf"
abbrev pub zeros : List ℕ
zeros = words.span_list no_span

-- a word is a u32: a raw count or a suffix length that row 2 refuses may pass it, and what is past it falls away
unfoldable pub tree_words_of : TokenTree → List ℕ
tree_words_of (trees.Leaf (leaves.Punct p)) = 0 ∷ p.char ∷ spacing_word p.spacing ∷ span_list p.span ++ zeros
tree_words_of (trees.Leaf (leaves.Ident p)) = 1 ∷ p.sym ∷ is_raw_word p.is_raw ∷ span_list p.span ++ zeros
tree_words_of (trees.Leaf (leaves.Literal p)) = 2 ∷ p.text_and_suffix ∷ ((lit_kind_word p.kind + 65536 * p.suffix_len) % 4294967296) ∷ span_list p.span ++ zeros
tree_words_of (trees.Subtree p) = 3 ∷ p.len.0 ∷ delimiter_word p.kind ∷ span_list p.opening ++ span_list p.closing
