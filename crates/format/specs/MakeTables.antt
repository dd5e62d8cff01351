-- Tables: what is made of a list. Its span parts and its symbols, each distinct one once, with their counts;
-- the rows that refuse the list or the lent runs; what the lent runs hold afterwards.
use Rattle.std.specs.Prelude.{ℕ, ◌+◌, ◌*◌, ◌-◌, ◌/◌, ◌%◌, ◌≡◌, Bool, true, false, ◌&&◌, ◌||◌, List, [], ◌∷◌, ◌++◌, map, length, get_or, leb, eqb}
use Rattle.format.specs.Verdict.{Verdict, passed, refused, ◌and_then◌, rule, contents}
use Rattle.format.specs.Word.{put}
use Rattle.format.specs.Width.{part_size, span_size, open_at, tree_size}
use Rattle.format.specs.Part.{Part, part_words, part_from, same_part}
use Rattle.format.specs.WordList.{open_part, close_part, list_count, list_rows}
use Rattle.format.specs.Distinct.{news, times}
use Rattle.format.specs.Order.{ordered}

-- ---- the keys, "Root excluded, open before close". `true` is the symbol table, `false` the part table

-- how many numbers there are: of symbols one for each tree below the root, of parts two
unfoldable pub key_count : List ℕ → Bool → ℕ
key_count l true = list_count l - 1
key_count l false = 2 * (list_count l - 1)

-- number v has a key: the tree is an ident or a literal; a part opens every tree and closes a subtree
unfoldable pub live_at : List ℕ → Bool → ℕ → Bool
live_at l true v = eqb (get_or l (tree_size * (v + 1)) 0) 1 || eqb (get_or l (tree_size * (v + 1)) 0) 2
live_at l false v = eqb (v % 2) 0 || eqb (get_or l (tree_size * (v / 2 + 1)) 0) 3

-- where the words of key v begin: at word 1 of its tree, or where its span does and then its closing one
unfoldable pub key_place : Bool → ℕ → ℕ
key_place true v = tree_size * (v + 1) + 1
key_place false v = tree_size * (v / 2 + 1) + (open_at + span_size * (v % 2))

-- word j of key v
abbrev pub key_word : List ℕ → Bool → ℕ → ℕ → ℕ
key_word l symbols v j = get_or l (key_place symbols v + j) 0

abbrev pub key_part : List ℕ → ℕ → Part
key_part l v = part_from (key_word l false v) 0

-- a symbol is one word, a part is "file, ast id and context"
abbrev pub key_words : List ℕ → Bool → ℕ → List ℕ
key_words l true v = key_word l true v 0 ∷ []
key_words l false v = part_words (key_part l v)

-- two keys are the same: their words are
unfoldable pub alike_at : List ℕ → Bool → ℕ → ℕ → Bool
alike_at l true u v = eqb (key_word l true u 0) (key_word l true v 0)
alike_at l false u v = same_part (key_part l u) (key_part l v)

-- ---- the table, "with more than 15 parts (63 symbols), falling count"

unfoldable pub limit_of : Bool → ℕ
limit_of true = 63
limit_of false = 15

module _ (l : List ℕ) (symbols : Bool) where
  -- the distinct keys in order of first appearance
  unfoldable pub keys_of : List ℕ
  keys_of = news (live_at l symbols) (alike_at l symbols) (key_count l symbols)

  -- how often key v stands in the list
  unfoldable pub times_of : ℕ → ℕ
  times_of v = times (live_at l symbols) (alike_at l symbols) (key_count l symbols) v

  -- the distinct keys in the table's order
  unfoldable pub table_keys : List ℕ
  table_keys = map (λ r. get_or keys_of r 0) (ordered (λ r. times_of (get_or keys_of r 0)) (limit_of symbols) (length keys_of))

  -- the words of some keys, one key after the other
  unfoldable pub words_of : List ℕ → List ℕ
  words_of [] = []
  words_of (v ∷ vs) = key_words l symbols v ++ words_of vs

  unfoldable pub table_words : List ℕ
  table_words = words_of table_keys

  unfoldable pub table_counts : List ℕ
  table_counts = map times_of table_keys

-- the root's open and close part
abbrev pub root_parts : List ℕ → List ℕ
root_parts l = part_words (open_part l 0) ++ part_words (close_part l 0)

-- the root's two parts are the last two, and counts are "none for the root's two"
unfoldable pub part_table : List ℕ → List ℕ
part_table l = table_words l false ++ root_parts l

unfoldable pub part_counts : List ℕ → List ℕ
part_counts l = table_counts l false

unfoldable pub symbol_table : List ℕ → List ℕ
symbol_table l = table_words l true

unfoldable pub symbol_counts : List ℕ → List ℕ
symbol_counts l = table_counts l true

-- how many parts the table has, the root's two among them
abbrev pub part_total : List ℕ → ℕ
part_total l = length (part_table l) / part_size

-- ---- the refusals, "as the writer, without 5"

-- the lent runs have so many words: for parts, their counts, symbols, their counts
abbrev pub tables_fit : List ℕ → ℕ → ℕ → ℕ → ℕ → Bool
tables_fit l a b c d =
    leb (length (part_table l)) a && leb (length (part_counts l)) b && leb (length (symbol_table l)) c && leb (length (symbol_counts l)) d

-- rows 1 to 4, and 6
unfoldable pub tables_verdict : List ℕ → ℕ → ℕ → ℕ → ℕ → Verdict
tables_verdict l a b c d = list_rows l and_then rule (tables_fit l a b c d) 6 0

-- what is reported: how many parts there are, the root's two among them, and how many symbols; or the refusal
pub data TablesReport : Type 0 where
  made : ℕ → ℕ → TablesReport
  refusal : ℕ → ℕ → TablesReport

abbrev pub tables_report : List ℕ → Verdict → TablesReport
tables_report l passed = made (part_total l) (length (symbol_table l))
tables_report l (refused r n) = refusal r n

-- ---- the lent runs afterwards

-- the verdict, and the four lent runs before and after; "memory past the reported length is unchanged"
pub record TablesMade (l a b c d : List ℕ) (v : Verdict) (a' b' c' d' : List ℕ) : Type 0 where
  pub verdict : v ≡ tables_verdict l (length a) (length b) (length c) (length d)
  pub parts : a' ≡ contents v a (put a 0 (part_table l))
  pub part_tallies : b' ≡ contents v b (put b 0 (part_counts l))
  pub symbols : c' ≡ contents v c (put c 0 (symbol_table l))
  pub symbol_tallies : d' ≡ contents v d (put d 0 (symbol_counts l))
