-- The lister's text: a header and a line a tree, or one line that says the refusal.
use Rattle.std.specs.Prelude.{ℕ, zero, suc, ◌+◌, ◌/◌, ◌%◌, List, [], ◌∷◌, ◌++◌, length, get_or, ltb, eqb, if◌then◌else◌}
use Rattle.format.specs.Verdict.{Verdict, passed, refused}
use Rattle.format.specs.Reader.{Shape, Reader}
use Rattle.format.specs.Loose.{loose_below}
use Rattle.format.specs.Nest.{around}
use Rattle.format.specs.Check.{listing, place_of}
use Rattle.format.specs.Tables.{part_count}
use Rattle.format.specs.Buffer.{word_shape, own_reader}
use Rattle.format.specs.Bundle.{BundleRead, bundle, bad_bundle, bundle_at, check_of}

-- a number in decimal digits; f bounds their number
unfoldable pub digits_for : ℕ → ℕ → List ℕ
digits_for zero n = []
digits_for (suc f) n = (if ltb n 10 then [] else digits_for f (n / 10)) ++ ((48 + n % 10) ∷ [])

abbrev pub decimal : ℕ → List ℕ
decimal n = digits_for (n + 1) n

-- a space; the end of a line
abbrev pub gap : List ℕ
gap = 32 ∷ []

abbrev pub newline : List ℕ
newline = 10 ∷ []

-- "trees ", " bytes ", " parts ", " symbols ", " loose "
abbrev pub trees_text : List ℕ
trees_text = 116 ∷ 114 ∷ 101 ∷ 101 ∷ 115 ∷ 32 ∷ []

abbrev pub bytes_text : List ℕ
bytes_text = 32 ∷ 98 ∷ 121 ∷ 116 ∷ 101 ∷ 115 ∷ 32 ∷ []

abbrev pub parts_text : List ℕ
parts_text = 32 ∷ 112 ∷ 97 ∷ 114 ∷ 116 ∷ 115 ∷ 32 ∷ []

abbrev pub symbols_text : List ℕ
symbols_text = 32 ∷ 115 ∷ 121 ∷ 109 ∷ 98 ∷ 111 ∷ 108 ∷ 115 ∷ 32 ∷ []

abbrev pub loose_text : List ℕ
loose_text = 32 ∷ 108 ∷ 111 ∷ 111 ∷ 115 ∷ 101 ∷ 32 ∷ []

-- "punct", "ident", "literal", "subtree", by word 0 of a tree
abbrev pub sort_text : ℕ → List ℕ
sort_text x =
    if eqb x 0 then 112 ∷ 117 ∷ 110 ∷ 99 ∷ 116 ∷ [] else
    (if eqb x 1 then 105 ∷ 100 ∷ 101 ∷ 110 ∷ 116 ∷ [] else
    (if eqb x 2 then 108 ∷ 105 ∷ 116 ∷ 101 ∷ 114 ∷ 97 ∷ 108 ∷ [] else
    115 ∷ 117 ∷ 98 ∷ 116 ∷ 114 ∷ 101 ∷ 101 ∷ []))

-- "refused ", " at "
abbrev pub refused_text : List ℕ
refused_text = 114 ∷ 101 ∷ 102 ∷ 117 ∷ 115 ∷ 101 ∷ 100 ∷ 32 ∷ []

abbrev pub at_text : List ℕ
at_text = 32 ∷ 97 ∷ 116 ∷ 32 ∷ []

-- "A refusal prints one line, as `refused 7 at 0`."
abbrev pub refusal_line : ℕ → ℕ → List ℕ
refusal_line r n = refused_text ++ decimal r ++ at_text ++ decimal n ++ newline

-- "Header", by the number of trees, bytes, parts and symbols; "The lister's header gains ` loose K`"
abbrev pub header : ℕ → ℕ → ℕ → ℕ → ℕ → List ℕ
header trees bytes parts symbols loose =
    trees_text ++ decimal trees ++ bytes_text ++ decimal bytes ++ parts_text ++ decimal parts ++ symbols_text ++ decimal symbols ++ loose_text ++ decimal loose ++ newline

-- "then tree number, first byte, depth, sort", the sort by word 0 of the tree
abbrev pub line : ℕ → ℕ → ℕ → ℕ → List ℕ
line n place depth sort = decimal n ++ gap ++ decimal place ++ gap ++ decimal depth ++ gap ++ sort_text sort ++ newline

-- the lines of any reader's trees; sort tells a tree's word 0
module _ {Tree : Type 0} (S : Shape Tree) (sort : Tree → ℕ) (R : Reader Tree) where
  -- "the root counting 1": the subtrees around tree n, and one more
  abbrev pub depth_of : ℕ → ℕ
  depth_of n = around S (listing S R) n n + 1

  unfoldable pub tree_line : ℕ → List ℕ
  tree_line n = line n (place_of S R n) (depth_of n) (sort ((listing S R).tree n))

  -- the lines of the j trees from tree n on
  unfoldable pub tree_lines : ℕ → ℕ → List ℕ
  tree_lines zero n = []
  tree_lines (suc j) n = tree_line n ++ tree_lines j (n + 1)

-- the sort of a tree by its list words
abbrev pub sort_word : List ℕ → ℕ
sort_word w = get_or w 0 0

-- the lines of a buffer's trees
abbrev pub buffer_lines : List ℕ → ℕ → List ℕ → List ℕ → List ℕ
buffer_lines b k parts symbols = tree_lines word_shape sort_word (own_reader b k parts symbols) k 0

-- the loose spans that are stored below the root of a buffer
unfoldable pub buffer_loose : List ℕ → ℕ → List ℕ → List ℕ → ℕ
buffer_loose b k parts symbols = loose_below b (place_of word_shape (own_reader b k parts symbols)) k

abbrev pub bundle_text : BundleRead → Verdict → List ℕ
bundle_text r (refused x n) = refusal_line x n
bundle_text (bundle B) passed =
    header B.trees (length B.bytes) (part_count B.parts B.symbols) (length B.symbols) (buffer_loose B.bytes B.trees B.parts B.symbols)
    ++ buffer_lines B.bytes B.trees B.parts B.symbols
-- no bad bundle is passed
bundle_text bad_bundle passed = refusal_line 1 0

-- "The lister takes 65,536 bytes of standard input (more is 1)."
abbrev pub lister_text : List ℕ → List ℕ
lister_text b = if ltb 65536 (length b) then refusal_line 1 0 else bundle_text (bundle_at b) (check_of (bundle_at b))
