-- A buffer as a reader of the source's trees, and such answers by list words.
use Rattle.std.specs.Prelude.{ℕ, Bool, ◌&&◌, List, [], leb}
use Rattle.format.specs.Reader.{Shape, Reader, Answer, mapped}
use Rattle.format.specs.Loose.{Loose, loose_at, reported_shape, reported}
use Rattle.format.specs.Tables.{rules, Mode, mode_tables, own_mode, own_tables}
use Rattle.format.specs.Buffer.{word_shape, raw_shape, reader_as}
use Rattle.tree.specs.Types.{resolved, tree_words_of}
use Rattle.tree.specs.declared.types.TokenTree.{TokenTree}

-- "Trees: 1 to 1,048,576."
abbrev pub trees_sized : ℕ → Bool
trees_sized k = leb 1 k && leb k 1048576

-- row 1 is silent: "size or stated tree count outside the bounds; .. part words of 3"
abbrev pub sizes : ℕ → List ℕ → List ℕ → Bool
sizes k parts symbols = trees_sized k && (own_tables parts symbols).sized

-- sort and descendant count are those that the list words say
abbrev pub tree_shape : Shape TokenTree
tree_shape =
    record {
      is_sub = λ t. word_shape.is_sub (tree_words_of t);
      count = λ t. word_shape.count (tree_words_of t);
      blank = resolved (own_mode [] []) 0 raw_shape.blank;
    }

-- over the tables of one mode, the tree shown by its entries
unfoldable pub tree_reader_in : List ℕ → ℕ → Mode → Reader TokenTree
tree_reader_in b k M = reader_as (resolved M) b k (rules (mode_tables M))

-- document 01's table mode, as `own_reader`
abbrev pub tree_reader : List ℕ → ℕ → List ℕ → List ℕ → Reader TokenTree
tree_reader b k parts symbols = tree_reader_in b k (own_mode parts symbols)

-- ---- with reports

abbrev pub report_shape : Shape (TokenTree × Loose)
report_shape = reported_shape tree_shape

unfoldable pub report_reader_in : List ℕ → ℕ → Mode → Reader (TokenTree × Loose)
report_reader_in b k M = reported (loose_at b) (tree_reader_in b k M)

-- "A tree handed back is compared by its list words."
abbrev pub shown_words : TokenTree × Loose → List ℕ
shown_words t = tree_words_of t.0

abbrev pub shown_report : TokenTree × Loose → List ℕ × Loose
shown_report t = (tree_words_of t.0, t.1)

unfoldable pub answer_words : Answer (TokenTree × Loose) → Answer (List ℕ)
answer_words a = mapped shown_words a

-- and with its report
unfoldable pub answer_report : Answer (TokenTree × Loose) → Answer (List ℕ × Loose)
answer_report a = mapped shown_report a
