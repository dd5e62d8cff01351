-- The lister's text of a buffer of whose tables the sizes alone are known. `list_bundle` does without: its contract is `lister_text`.
use Rattle.std.specs.Prelude.{ℕ, List, ◌++◌, length}
use Rattle.format.specs.Verdict.{Verdict, passed, refused}
use Rattle.format.specs.Tree.{Raw, punct, ident, literal, subtree}
use Rattle.format.specs.Check.{check, place_of}
use Rattle.format.specs.Buffer.{raw_shape, size_reader}
use Rattle.format.specs.Loose.{loose_below}
use Rattle.format.specs.Lister.{decimal, newline, parts_text, symbols_text, loose_text, refusal_line, header, tree_lines}

-- "Word 0: 0 punct, 1 ident, 2 literal, 3 subtree."
unfoldable pub sort_of : Raw → ℕ
sort_of (punct s c x) = 0
sort_of (ident s i r) = 1
sort_of (literal s i k r x) = 2
sort_of (subtree s t n d) = 3

-- the second half of the header
abbrev pub tables_text : ℕ → ℕ → ℕ → List ℕ
tables_text parts symbols loose = parts_text ++ decimal parts ++ symbols_text ++ decimal symbols ++ loose_text ++ decimal loose ++ newline

unfoldable pub size_lines : List ℕ → ℕ → ℕ → ℕ → List ℕ
size_lines b k parts symbols = tree_lines raw_shape sort_of (size_reader b k parts symbols) k 0

unfoldable pub size_loose : List ℕ → ℕ → ℕ → ℕ → ℕ
size_loose b k parts symbols = loose_below b (place_of raw_shape (size_reader b k parts symbols)) k

-- the header and the lines
abbrev pub size_listing : List ℕ → ℕ → ℕ → ℕ → List ℕ
size_listing b k parts symbols = header k (length b) parts symbols (size_loose b k parts symbols) ++ size_lines b k parts symbols

-- the text that a verdict leaves: all of it, or the refusal's line
abbrev pub or_refusal : Verdict → List ℕ → List ℕ
or_refusal passed t = t
or_refusal (refused r n) t = refusal_line r n

unfoldable pub sizes_text : List ℕ → ℕ → ℕ → ℕ → List ℕ
sizes_text b k parts symbols =
    or_refusal (check raw_shape (size_reader b k parts symbols)) (size_listing b k parts symbols)
