-- Both ends of the writer's totals are reached (document 02, ticket 7), and other buffers of one list can be as short as the writer's.
use Prim.Native.Nat.{ℕ, zero, suc, ◌+◌, ◌*◌}
use mathlib.Core.Path.{◌≡◌, refl}
use mathlib.Core.List.{List, [], ◌∷◌, ◌++◌}
use lib.ListN.{length}
use Rattle.format.specs.Verdict.{passed, each_from}
use Rattle.format.specs.Word.{word_at, half_at}
use Rattle.format.specs.Span.{span_at, symbol_at}
use Rattle.format.specs.Nest.{nest_from, still_open}
use Rattle.format.specs.Tree.{tree_at, after_span, controlled}
use Rattle.format.specs.Check.{check, place_of}
use Rattle.format.specs.Write.{tree_bytes, literal_bytes, subtree_bytes, span_bytes, symbol_bytes, heavy_bytes, root_bytes, suffixes}
use Rattle.format.specs.Tables.{tree_words}
use Rattle.format.specs.Buffer.{judge, own_reader, buffer_check}
use Rattle.format.specs.WordList.{words_up_to, raw_from, list_rules}
use Rattle.format.specs.Writer.{find, raws, packed, list_verdict}
use Rattle.format.specs.Distinct.{any_in, tally, news}
use Rattle.format.specs.Order.{range, before, insert, falling, ordered}
use Rattle.format.specs.MakeTables.{key_count, live_at, key_place, alike_at, limit_of, keys_of, times_of, table_keys, words_of, table_words, part_table}
use Rattle.format.specs.Unpack.{list_of}
use Rattle.format.proofs.Worked.{two_parts, root_words, parens}
use Rattle.format.proofs.Samples.{copies, three_parts}
use Rattle.format.proofs.ReplaceExamples.{around}

-- a root around j trees of these words
abbrev rooted : ℕ → List ℕ → List ℕ
rooted j w = (3 ∷ j ∷ 3 ∷ 1 ∷ 0 ∷ 0 ∷ 0 ∷ 0 ∷ 2 ∷ 0 ∷ 0 ∷ 0 ∷ 0 ∷ []) ++ copies j w

-- `+` Alone, start 10, length 1: in five bytes
abbrev plus_words : List ℕ
plus_words = 0 ∷ 43 ∷ 0 ∷ 7 ∷ 0 ∷ 0 ∷ 10 ∷ 1 ∷ 0 ∷ 0 ∷ 0 ∷ 0 ∷ 0 ∷ []

-- empty parentheses whose spans start at 134,217,728 and have lengths 0 and 1: in 101 with two spans of twelve bytes
abbrev far_words : List ℕ
far_words = 3 ∷ 0 ∷ 0 ∷ 7 ∷ 0 ∷ 0 ∷ 134217728 ∷ 0 ∷ 7 ∷ 0 ∷ 0 ∷ 134217728 ∷ 1 ∷ []

-- a lone root has both bounds; four trees each
ends : (list_verdict two_parts [] root_words ≡ passed)
    × (length (packed two_parts [] root_words) ≡ 33)
    × (list_verdict three_parts [] (rooted 3 plus_words) ≡ passed)
    × (length (packed three_parts [] (rooted 3 plus_words)) ≡ 33 + 5 * 3)
    × (list_verdict three_parts [] (rooted 3 far_words) ≡ passed)
    × (length (packed three_parts [] (rooted 3 far_words)) ≡ 33 * 4)
unfolding copies list_verdict list_rules each_from nest_from still_open raws raw_from find suffixes tree_bytes literal_bytes subtree_bytes root_bytes heavy_bytes span_bytes symbol_bytes
ends = (refl, refl, refl, refl, refl, refl)

-- ---- "over given tables": over others the same list can take fewer bytes

-- puncts of j parts, each in a span of twelve bytes
abbrev far_puncts : ℕ → ℕ → List ℕ
far_puncts zero f = []
far_puncts (suc j) f = 0 ∷ 43 ∷ 0 ∷ f ∷ 0 ∷ 0 ∷ 134217728 ∷ 0 ∷ 0 ∷ 0 ∷ 0 ∷ 0 ∷ 0 ∷ far_puncts j (f + 1)

-- sixteen of them, then a part whose span fits four
abbrev seventeen : List ℕ
seventeen = (3 ∷ 17 ∷ 3 ∷ 1 ∷ 0 ∷ 0 ∷ 0 ∷ 0 ∷ 2 ∷ 0 ∷ 0 ∷ 0 ∷ 0 ∷ []) ++ far_puncts 16 10 ++ (0 ∷ 43 ∷ 0 ∷ 9 ∷ 0 ∷ 0 ∷ 10 ∷ 1 ∷ 0 ∷ 0 ∷ 0 ∷ 0 ∷ 0 ∷ [])

abbrev files : ℕ → ℕ → List ℕ
files zero f = []
files (suc j) f = f ∷ 0 ∷ 0 ∷ files j (f + 1)

-- that part first
abbrev nine_first : List ℕ
nine_first = files 1 9 ++ files 16 10 ++ files 2 1

-- by document 01's order it is the last below the root, index 16, and its span takes eight bytes
other_tables : (part_table seventeen ≡ files 16 10 ++ files 1 9 ++ files 2 1)
    × (list_verdict (part_table seventeen) [] seventeen ≡ passed)
    × (length (packed (part_table seventeen) [] seventeen) ≡ 33 + 16 * 13 + 9)
    × (list_verdict nine_first [] seventeen ≡ passed)
    × (length (packed nine_first [] seventeen) ≡ 33 + 16 * 13 + 5)
unfolding list_verdict list_rules each_from nest_from still_open raws raw_from find suffixes tree_bytes root_bytes heavy_bytes span_bytes part_table table_words words_of table_keys keys_of times_of limit_of key_count live_at alike_at key_place ordered range falling insert before news tally any_in
other_tables = (refl, refl, refl, refl, refl)

-- ---- as short as the writer's

-- parentheses that start at 5 and 8 with length 1
abbrev paren_words : List ℕ
paren_words = 3 ∷ 0 ∷ 0 ∷ 7 ∷ 0 ∷ 0 ∷ 5 ∷ 1 ∷ 7 ∷ 0 ∷ 0 ∷ 8 ∷ 1 ∷ []

-- in 001: in hex 5 × 8000 + 40 = 28040 with the length in it, then 1 + 32 × 3 = 61
abbrev parens001 : List ℕ
parens001 = 0x40 ∷ 0x80 ∷ 0x02 ∷ 0x00 ∷ 0x61 ∷ 0x00 ∷ 0x00 ∷ []

-- the writer takes 000, which is seven bytes too
as_short : (packed three_parts [] (rooted 1 paren_words) ≡ around 1 1 7 ++ parens)
    × (buffer_check (around 1 1 7 ++ parens001) 2 three_parts [] ≡ passed)
    × (list_of (around 1 1 7 ++ parens001) 2 three_parts [] ≡ rooted 1 paren_words)
unfolding copies raws raw_from find suffixes tree_bytes subtree_bytes root_bytes heavy_bytes span_bytes check each_from place_of nest_from still_open own_reader judge tree_words tree_at after_span controlled span_at symbol_at word_at half_at list_of words_up_to
as_short = (refl, refl, refl)
