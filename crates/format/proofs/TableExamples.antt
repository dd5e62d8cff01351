-- Tables of some lists, by computation.
use Prim.Native.Nat.{ℕ, zero, suc, ◌+◌}
use mathlib.Core.Path.{◌≡◌, refl}
use mathlib.Core.List.{List, [], ◌∷◌, ◌++◌}
use mathlib.Core.Bool.{true}
use lib.ListN.{replicate}
use lib.Dec.{eqb}
use Rattle.std.specs.Prelude.{if◌then◌else◌}
use Rattle.format.specs.Verdict.{passed, refused, each_from}
use Rattle.format.specs.Nest.{nest_from, still_open}
use Rattle.format.specs.Word.{put}
use Rattle.format.specs.WordList.{raw_from, list_rules}
use Rattle.format.specs.Distinct.{any_in, tally, news}
use Rattle.format.specs.Order.{range, before, insert, falling, ordered}
use Rattle.format.specs.MakeTables.{key_count, live_at, key_place, alike_at, limit_of, keys_of, times_of, table_keys, words_of, table_words, table_counts}
use Rattle.format.specs.MakeTables.{part_table, part_counts, symbol_table, symbol_counts, tables_verdict, made, refusal, tables_report, TablesMade}

-- the tables of a list: parts, their counts, symbols, their counts
all : List ℕ → List (List ℕ)
unfolding part_table part_counts symbol_table symbol_counts table_words table_counts words_of table_keys keys_of times_of limit_of key_count live_at alike_at key_place
    ordered range falling insert before news tally any_in
all l = part_table l ∷ part_counts l ∷ symbol_table l ∷ symbol_counts l ∷ []

-- ---- trees whose parts differ in the file alone

abbrev punct_of : ℕ → List ℕ
punct_of f = 0 ∷ 43 ∷ 0 ∷ f ∷ 0 ∷ 0 ∷ 10 ∷ 1 ∷ 0 ∷ 0 ∷ 0 ∷ 0 ∷ 0 ∷ []

abbrev ident_of : ℕ → List ℕ
ident_of y = 1 ∷ y ∷ 0 ∷ 7 ∷ 0 ∷ 0 ∷ 10 ∷ 1 ∷ 0 ∷ 0 ∷ 0 ∷ 0 ∷ 0 ∷ []

abbrev literal_of : ℕ → List ℕ
literal_of y = 2 ∷ y ∷ 2 ∷ 7 ∷ 0 ∷ 0 ∷ 10 ∷ 1 ∷ 0 ∷ 0 ∷ 0 ∷ 0 ∷ 0 ∷ []

-- n descendants
abbrev subtree_of : ℕ → ℕ → ℕ → List ℕ
subtree_of n f g = 3 ∷ n ∷ 0 ∷ f ∷ 0 ∷ 0 ∷ 5 ∷ 1 ∷ g ∷ 0 ∷ 0 ∷ 8 ∷ 1 ∷ []

abbrev flat : List (List ℕ) → List ℕ
flat [] = []
flat (t ∷ ts) = t ++ flat ts

-- m trees of the numbers from i on
abbrev each : (ℕ → List ℕ) → ℕ → ℕ → List ℕ
each tree zero i = []
each tree (suc m) i = tree i ++ each tree m (i + 1)

abbrev files : List ℕ → List ℕ
files [] = []
files (f ∷ fs) = f ∷ 0 ∷ 0 ∷ files fs

-- m times 1
abbrev ones : ℕ → List ℕ
ones zero = []
ones (suc m) = 1 ∷ ones m

-- ---- parts

-- the root is not counted; its open and close part are the last two
lone_root_lem : all (subtree_of 0 8 9) ≡ files (8 ∷ 9 ∷ []) ∷ [] ∷ [] ∷ [] ∷ []
unfolding all
lone_root_lem = refl

-- the root's open part 8 is used below: it stands twice, and counts once
root_part_below : all (flat (subtree_of 2 8 9 ∷ punct_of 8 ∷ punct_of 4 ∷ [])) ≡ files (8 ∷ 4 ∷ 8 ∷ 9 ∷ []) ∷ (1 ∷ 1 ∷ []) ∷ [] ∷ [] ∷ []
unfolding all
root_part_below = refl

-- the open part comes before the close part, and counts beside it where the two are the same
open_first : all (flat (subtree_of 3 8 9 ∷ subtree_of 1 6 5 ∷ punct_of 5 ∷ subtree_of 0 4 4 ∷ []))
    ≡ files (6 ∷ 5 ∷ 4 ∷ 8 ∷ 9 ∷ []) ∷ (1 ∷ 2 ∷ 2 ∷ []) ∷ [] ∷ [] ∷ []
unfolding all
open_first = refl

-- 15 parts, the last one twice: in order of first appearance, though the root's two make 17
fifteen : all (flat (subtree_of 16 80 90 ∷ each punct_of 15 1 ∷ punct_of 15 ∷ []))
    ≡ files (1 ∷ 2 ∷ 3 ∷ 4 ∷ 5 ∷ 6 ∷ 7 ∷ 8 ∷ 9 ∷ 10 ∷ 11 ∷ 12 ∷ 13 ∷ 14 ∷ 15 ∷ 80 ∷ 90 ∷ []) ∷ (ones 14 ++ 2 ∷ []) ∷ [] ∷ [] ∷ []
unfolding all
fifteen = refl

-- 16 parts: the last one, used twice, comes first
sixteen : all (flat (subtree_of 17 80 90 ∷ each punct_of 16 1 ∷ punct_of 16 ∷ []))
    ≡ files (16 ∷ 1 ∷ 2 ∷ 3 ∷ 4 ∷ 5 ∷ 6 ∷ 7 ∷ 8 ∷ 9 ∷ 10 ∷ 11 ∷ 12 ∷ 13 ∷ 14 ∷ 15 ∷ 80 ∷ 90 ∷ []) ∷ (2 ∷ ones 15) ∷ [] ∷ [] ∷ []
unfolding all
sixteen = refl

-- 7 is used a second time before 3 is: of equal counts the first appearance decides
tie : all (flat (subtree_of 18 80 90 ∷ each punct_of 16 1 ∷ punct_of 7 ∷ punct_of 3 ∷ []))
    ≡ files (3 ∷ 7 ∷ 1 ∷ 2 ∷ 4 ∷ 5 ∷ 6 ∷ 8 ∷ 9 ∷ 10 ∷ 11 ∷ 12 ∷ 13 ∷ 14 ∷ 15 ∷ 16 ∷ 80 ∷ 90 ∷ []) ∷ (2 ∷ 2 ∷ ones 14) ∷ [] ∷ [] ∷ []
unfolding all
tie = refl

-- ---- symbols

-- of idents and literals alike; a punct's character is none
ident_literal : all (flat (subtree_of 5 8 9 ∷ ident_of 9 ∷ punct_of 7 ∷ ident_of 4 ∷ literal_of 9 ∷ literal_of 0 ∷ []))
    ≡ files (7 ∷ 8 ∷ 9 ∷ []) ∷ (5 ∷ []) ∷ (9 ∷ 4 ∷ 0 ∷ []) ∷ (2 ∷ 1 ∷ 1 ∷ []) ∷ []
unfolding all
ident_literal = refl

-- 63 symbols stay in order of first appearance, of 64 the last one, used twice, comes first
abbrev twice : ℕ → ℕ → ℕ
twice x r = if eqb r x then 2 else 1

sixty_three : (ordered (twice 62) (limit_of true) 63 ≡ range 63 0) × (ordered (twice 63) (limit_of true) 64 ≡ 63 ∷ range 63 0)
unfolding all
sixty_three = (refl, refl)

-- ---- refusals: an ident and a literal below the root make 9 part words, 1 part count, 2 symbols and 2 symbol counts

abbrev small : List ℕ
small = flat (subtree_of 2 8 9 ∷ ident_of 4 ∷ literal_of 5 ∷ [])

room : (tables_verdict small 9 1 2 2 ≡ passed) × (tables_verdict small 8 1 2 2 ≡ refused 6 0) × (tables_verdict small 9 0 2 2 ≡ refused 6 0)
    × (tables_verdict small 9 1 1 2 ≡ refused 6 0) × (tables_verdict small 9 1 2 1 ≡ refused 6 0)
unfolding all tables_verdict list_rules each_from raw_from nest_from still_open
room = (refl, refl, refl, refl, refl)

-- the list's own rows come first: no tree, a delimiter kind out of range, a root that does not hold all others
rows : (tables_verdict [] 0 0 0 0 ≡ refused 1 0)
    × (tables_verdict (3 ∷ 0 ∷ 4 ∷ 0 ∷ 0 ∷ 0 ∷ 0 ∷ 0 ∷ 0 ∷ 0 ∷ 0 ∷ 0 ∷ 0 ∷ []) 0 0 0 0 ≡ refused 2 0)
    × (tables_verdict (flat (subtree_of 1 8 9 ∷ ident_of 4 ∷ literal_of 5 ∷ [])) 0 0 0 0 ≡ refused 3 0)
unfolding tables_verdict list_rules each_from raw_from nest_from still_open
rows = (refl, refl, refl)

-- the four runs afterwards: the result, and behind it what stood there; after a refusal all stays
small_made : TablesMade small (replicate 10 7) (6 ∷ 6 ∷ []) (5 ∷ 5 ∷ 5 ∷ []) (4 ∷ 4 ∷ 4 ∷ []) passed
    (7 ∷ 0 ∷ 0 ∷ 8 ∷ 0 ∷ 0 ∷ 9 ∷ 0 ∷ 0 ∷ 7 ∷ []) (2 ∷ 6 ∷ []) (4 ∷ 5 ∷ 5 ∷ []) (1 ∷ 1 ∷ 4 ∷ [])
unfolding all tables_verdict list_rules each_from raw_from nest_from still_open put
small_made = record { verdict = refl; parts = refl; part_tallies = refl; symbols = refl; symbol_tallies = refl }

small_refused : TablesMade small (replicate 10 7) (6 ∷ 6 ∷ []) (5 ∷ 5 ∷ 5 ∷ []) (4 ∷ []) (refused 6 0) (replicate 10 7) (6 ∷ 6 ∷ []) (5 ∷ 5 ∷ 5 ∷ []) (4 ∷ [])
unfolding all tables_verdict list_rules each_from raw_from nest_from still_open put
small_refused = record { verdict = refl; parts = refl; part_tallies = refl; symbols = refl; symbol_tallies = refl }

-- three parts, the root's two among them, and two symbols
small_report : (tables_report small passed ≡ made 3 2) × (tables_report small (refused 6 0) ≡ refusal 6 0)
unfolding all
small_report = (refl, refl)
