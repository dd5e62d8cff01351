-- Walks, cursor calls and last spans over a small buffer: the unmodified source's answers, its panics as refusal 10. The lister's text is document 01's.
use Prim.Native.Nat.{ℕ}
use mathlib.Core.Path.{◌≡◌, refl, ap, ◌∙◌}
use mathlib.Core.List.{List, [], ◌∷◌, ◌++◌}
use lib.ListN.{length, get_or, take, drop}
use Rattle.format.specs.Verdict.{Verdict, passed, each_from}
use Rattle.format.specs.Verdict as verdicts
use Rattle.format.specs.Reader.{done, none, one, two, refused}
use Rattle.format.specs.Word.{word_at, half_at}
use Rattle.format.specs.Write.{span_bytes}
use Rattle.format.specs.Loose.{loose_from, loose_at, loose_after}
use Rattle.format.specs.Span.{span_at, symbol_at}
use Rattle.format.specs.Nest.{around, nest_from, still_open}
use Rattle.format.specs.Tree.{tree_at, after_span, controlled}
use Rattle.format.specs.Check.{check, place_of}
use Rattle.format.specs.Walk.{Walk, advance, skip, walk_step, walk_run}
use Rattle.format.specs.Cursor.{Open, Cursor, bump, end, bump_or_end, token_tree, peek_two_leaves, nested_in, cursor_step, cursor_run, fresh_cursor}
use Rattle.format.specs.LastSpan.{last_for, last_span}
use Rattle.format.specs.Tables.{tree_words}
use Rattle.format.specs.Buffer.{judge, word_shape, own_reader, buffer_check}
use Rattle.format.specs.Bundle.{bundle, bad_bundle, records, bundle_at, check_of, number_of}
use Rattle.format.specs.Lister.{digits_for, refusal_line, header, sort_word, tree_line, tree_lines, buffer_loose, bundle_text, lister_text}
use Rattle.format.proofs.Samples.{three_parts, four_parts, hundred_symbols, ten_bytes}

-- an Invisible root around `+`, empty parentheses, `+`, `+`
abbrev pub five_bytes : List ℕ
five_bytes =
    0x04 ∷ 0x40 ∷ 0x00 ∷ 0x00 ∷ 0x01 ∷ 0x00 ∷ 0x00 ∷ 0x00 ∷ 0x00 ∷ 0x00 ∷ 0x00 ∷ 0x00 ∷ 0x1D ∷ 0x08 ∷ 0x40 ∷ 0x00 ∷ 0x00 ∷ 0x01 ∷ 0x00 ∷ 0x00 ∷ 0x00 ∷ 0x00 ∷ 0x00 ∷ 0x00 ∷ 0x00 ∷ 0x04 ∷
    0x00 ∷ 0x00 ∷ 0x00 ∷ 0x16 ∷ 0x00 ∷ 0x00 ∷ 0x00 ∷ 0x41 ∷ 0x00 ∷ 0x05 ∷ 0x00 ∷ 0x56 ∷ 0x40 ∷ 0x80 ∷ 0x05 ∷ 0x00 ∷ 0x00 ∷ 0x00 ∷ 0x00 ∷ 0x41 ∷ 0x80 ∷ 0x06 ∷ 0x00 ∷ 0x56 ∷ 0x41 ∷ 0x00 ∷
    0x07 ∷ 0x00 ∷ 0x56 ∷ []

-- the words of tree n
abbrev pub five_trees : List ℕ
five_trees =
    3 ∷ 4 ∷ 3 ∷ 1 ∷ 0 ∷ 0 ∷ 0 ∷ 0 ∷ 2 ∷ 0 ∷ 0 ∷ 0 ∷ 0 ∷ 0 ∷ 43 ∷ 0 ∷ 7 ∷ 0 ∷ 0 ∷ 10 ∷ 1 ∷ 0 ∷ 0 ∷ 0 ∷ 0 ∷ 0 ∷
    3 ∷ 0 ∷ 0 ∷ 7 ∷ 0 ∷ 0 ∷ 11 ∷ 1 ∷ 7 ∷ 0 ∷ 0 ∷ 12 ∷ 1 ∷ 0 ∷ 43 ∷ 0 ∷ 7 ∷ 0 ∷ 0 ∷ 13 ∷ 1 ∷ 0 ∷ 0 ∷ 0 ∷ 0 ∷ 0 ∷
    0 ∷ 43 ∷ 0 ∷ 7 ∷ 0 ∷ 0 ∷ 14 ∷ 1 ∷ 0 ∷ 0 ∷ 0 ∷ 0 ∷ 0 ∷ []

abbrev tree : ℕ → List ℕ
tree n = get_or (take 13 five_trees ∷ take 13 (drop 13 five_trees) ∷ take 13 (drop 26 five_trees) ∷ take 13 (drop 39 five_trees) ∷ drop 52 five_trees ∷ []) n []

five_pass : buffer_check five_bytes 5 three_parts [] ≡ passed
unfolding check each_from place_of nest_from still_open own_reader judge tree_words tree_at after_span controlled span_at word_at
five_pass = refl

-- byte place, tree number, trees left
abbrev at : ℕ → ℕ → ℕ → Walk
at p n l = record { place = p; number = n; left = l }

walk_singly : walk_run word_shape (own_reader five_bytes 5 three_parts []) (advance ∷ advance ∷ advance ∷ advance ∷ advance ∷ advance ∷ []) (at 0 0 5)
    ≡ (one (tree 0), at 33 1 4) ∷ (one (tree 1), at 38 2 3) ∷ (one (tree 2), at 45 3 2) ∷ (one (tree 3), at 50 4 1) ∷ (one (tree 4), at 55 5 0) ∷ (none, at 55 5 0) ∷ []
unfolding walk_run walk_step own_reader judge tree_words tree_at after_span controlled span_at word_at
walk_singly = refl

walk_past : walk_run word_shape (own_reader five_bytes 5 three_parts []) (skip ∷ skip ∷ []) (at 0 0 5) ≡ (one (tree 0), at 55 5 0) ∷ (none, at 55 5 0) ∷ []
unfolding walk_run walk_step own_reader judge tree_words tree_at after_span controlled span_at word_at
walk_past = refl

-- tree number, byte place, open subtrees
abbrev on : ℕ → ℕ → List Open → Cursor
on n p os = record { number = n; place = p; opened = os }

-- number, descendants, byte place
abbrev sub : ℕ → ℕ → ℕ → Open
sub n c p = record { number = n; count = c; place = p }

-- `bump` three times enters the empty parentheses; there `bump` is not open, `end` hands them back
cursor_ends : cursor_run word_shape (own_reader five_bytes 5 three_parts []) (bump ∷ bump ∷ bump ∷ bump ∷ end ∷ bump ∷ bump ∷ bump ∷ end ∷ bump_or_end ∷ end ∷ []) fresh_cursor
    ≡ (done, on 1 33 (sub 0 4 0 ∷ [])) ∷ (done, on 2 38 (sub 0 4 0 ∷ [])) ∷ (done, on 3 45 (sub 2 0 38 ∷ sub 0 4 0 ∷ []))
    ∷ (refused 10 0, on 3 45 (sub 2 0 38 ∷ sub 0 4 0 ∷ [])) ∷ (one (tree 2), on 3 45 (sub 0 4 0 ∷ []))
    ∷ (done, on 4 50 (sub 0 4 0 ∷ [])) ∷ (done, on 5 55 (sub 0 4 0 ∷ [])) ∷ (refused 10 0, on 5 55 (sub 0 4 0 ∷ []))
    ∷ (one (tree 0), on 5 55 []) ∷ (done, on 5 55 []) ∷ (refused 10 0, on 5 55 []) ∷ []
unfolding cursor_run cursor_step nested_in own_reader judge tree_words tree_at after_span controlled span_at word_at
cursor_ends = refl

-- the look ahead finds two leaves only where both are, and not past the end of the open subtree
cursor_looks : cursor_run word_shape (own_reader five_bytes 5 three_parts []) (token_tree ∷ peek_two_leaves ∷ bump ∷ peek_two_leaves ∷ bump ∷ bump ∷ token_tree ∷ bump_or_end ∷ peek_two_leaves ∷ bump ∷ peek_two_leaves ∷ token_tree ∷ []) fresh_cursor
    ≡ (one (tree 0), on 0 0 []) ∷ (none, on 0 0 []) ∷ (done, on 1 33 (sub 0 4 0 ∷ [])) ∷ (none, on 1 33 (sub 0 4 0 ∷ [])) ∷ (done, on 2 38 (sub 0 4 0 ∷ []))
    ∷ (done, on 3 45 (sub 2 0 38 ∷ sub 0 4 0 ∷ [])) ∷ (none, on 3 45 (sub 2 0 38 ∷ sub 0 4 0 ∷ [])) ∷ (done, on 3 45 (sub 0 4 0 ∷ []))
    ∷ (two (tree 3) (tree 4), on 3 45 (sub 0 4 0 ∷ [])) ∷ (done, on 4 50 (sub 0 4 0 ∷ [])) ∷ (none, on 4 50 (sub 0 4 0 ∷ [])) ∷ (one (tree 4), on 4 50 (sub 0 4 0 ∷ [])) ∷ []
unfolding cursor_run cursor_step nested_in own_reader judge tree_words tree_at after_span controlled span_at word_at
cursor_looks = refl

-- invented states: a place past the end; more trees left than there are; an open subtree that ends before the cursor; one that does not lie in the one before
invented : ((walk_step word_shape (own_reader five_bytes 5 three_parts []) advance (at 56 0 5)).0 ≡ refused 10 0)
    × ((walk_step word_shape (own_reader five_bytes 5 three_parts []) advance (at 0 1 5)).0 ≡ refused 10 0)
    × ((walk_step word_shape (own_reader five_bytes 5 three_parts []) advance (at 33 0 5)).0 ≡ refused 2 0)
    × ((walk_step word_shape (own_reader five_bytes 5 three_parts []) advance (at 0 1 1)).0 ≡ refused 8 1)
    × ((walk_step word_shape (own_reader five_bytes 5 three_parts []) skip (at 0 0 4)).0 ≡ refused 3 0)
    × ((cursor_step word_shape (own_reader five_bytes 5 three_parts []) token_tree (on 4 50 (sub 2 0 38 ∷ []))).0 ≡ refused 10 0)
    × ((cursor_step word_shape (own_reader five_bytes 5 three_parts []) token_tree (on 4 50 (sub 2 3 38 ∷ sub 0 4 0 ∷ []))).0 ≡ refused 10 0)
    × ((cursor_step word_shape (own_reader five_bytes 5 three_parts []) end (on 5 55 (sub 1 3 33 ∷ []))).0 ≡ refused 10 0)
    × ((walk_step word_shape (own_reader five_bytes 0 three_parts []) advance (at 0 0 0)).0 ≡ refused 1 0)
unfolding cursor_step walk_step nested_in own_reader judge tree_words tree_at after_span controlled span_at word_at
invented = (refl, refl, refl, refl, refl, refl, refl, refl, refl)

-- the last span: of the whole; of a leaf; of an empty subtree its close; none of no tree
last_spans_lem : (last_span five_bytes 5 three_parts [] (at 0 0 5) ≡ one (7 ∷ 0 ∷ 0 ∷ 14 ∷ 1 ∷ []))
    × (last_span five_bytes 5 three_parts [] (at 33 1 1) ≡ one (7 ∷ 0 ∷ 0 ∷ 10 ∷ 1 ∷ []))
    × (last_span five_bytes 5 three_parts [] (at 38 2 1) ≡ one (7 ∷ 0 ∷ 0 ∷ 12 ∷ 1 ∷ []))
    × (last_span five_bytes 5 three_parts [] (at 55 5 0) ≡ none)
    × (last_span ten_bytes 10 four_parts hundred_symbols (at 0 0 10) ≡ one (8 ∷ 0 ∷ 0 ∷ 83 ∷ 1 ∷ []))
unfolding last_for walk_step own_reader judge tree_words tree_at after_span controlled span_at symbol_at word_at half_at
last_spans_lem = (refl, refl, refl, refl, refl)

-- its refusals are those of its steps: 3 where the root does not fit in the trees left, 9 and 7 in a buffer that is cut, 10 and 1 on the walk and the sizes
last_refusals : (last_span five_bytes 5 three_parts [] (at 0 0 4) ≡ refused 3 0)
    × (last_span (take 44 five_bytes) 5 three_parts [] (at 0 0 5) ≡ refused 9 0)
    × (last_span (take 44 five_bytes) 5 three_parts [] (at 33 1 2) ≡ refused 7 2)
    × (last_span five_bytes 5 three_parts [] (at 56 0 5) ≡ refused 10 0)
    × (last_span five_bytes 0 three_parts [] (at 0 0 0) ≡ refused 1 0)
unfolding last_for walk_step own_reader judge tree_words tree_at after_span controlled span_at word_at
last_refusals = (refl, refl, refl, refl, refl)

-- the same bytes with control bit 5 of the empty parentheses flipped: 2 at tree 2 wherever it is read, behind a leaf and in `end` too, and no state moves
abbrev flipped : List ℕ
flipped = take 42 five_bytes ++ (0x20 ∷ drop 43 five_bytes)

flipped_bit : (buffer_check flipped 5 three_parts [] ≡ verdicts.refused 2 2)
    × (walk_step word_shape (own_reader flipped 5 three_parts []) advance (at 38 2 3) ≡ (refused 2 2, at 38 2 3))
    × (walk_step word_shape (own_reader flipped 5 three_parts []) skip (at 38 2 3) ≡ (refused 2 2, at 38 2 3))
    × (cursor_step word_shape (own_reader flipped 5 three_parts []) bump (on 2 38 (sub 0 4 0 ∷ [])) ≡ (refused 2 2, on 2 38 (sub 0 4 0 ∷ [])))
    × (cursor_step word_shape (own_reader flipped 5 three_parts []) token_tree (on 2 38 (sub 0 4 0 ∷ [])) ≡ (refused 2 2, on 2 38 (sub 0 4 0 ∷ [])))
    × (cursor_step word_shape (own_reader flipped 5 three_parts []) bump_or_end (on 2 38 (sub 0 4 0 ∷ [])) ≡ (refused 2 2, on 2 38 (sub 0 4 0 ∷ [])))
    × (cursor_step word_shape (own_reader flipped 5 three_parts []) peek_two_leaves (on 1 33 (sub 0 4 0 ∷ [])) ≡ (refused 2 2, on 1 33 (sub 0 4 0 ∷ [])))
    × (cursor_step word_shape (own_reader flipped 5 three_parts []) end (on 3 45 (sub 2 0 38 ∷ sub 0 4 0 ∷ [])) ≡ (refused 2 2, on 3 45 (sub 2 0 38 ∷ sub 0 4 0 ∷ [])))
    × (last_span flipped 5 three_parts [] (at 38 2 3) ≡ refused 2 2)
    × (last_span flipped 5 three_parts [] (at 33 1 4) ≡ refused 2 2)
unfolding check each_from place_of last_for cursor_step walk_step nested_in own_reader judge tree_words tree_at after_span controlled span_at word_at
flipped_bit = (refl, refl, refl, refl, refl, refl, refl, refl, refl, refl)

-- ---- the lister

-- three parts, then the Invisible root of zeros around `+`
abbrev pub plus_bundle : List ℕ
plus_bundle =
    0x53 ∷ 0x50 ∷ 0x07 ∷ 0x00 ∷ 0x00 ∷ 0x00 ∷ 0x00 ∷ 0x00 ∷ 0x00 ∷ 0x00 ∷ 0x00 ∷ 0x00 ∷ 0x00 ∷ 0x00 ∷ 0x53 ∷ 0x50 ∷ 0x01 ∷ 0x00 ∷ 0x00 ∷ 0x00 ∷ 0x00 ∷ 0x00 ∷ 0x00 ∷ 0x00 ∷ 0x00 ∷ 0x00 ∷
    0x00 ∷ 0x00 ∷ 0x53 ∷ 0x50 ∷ 0x02 ∷ 0x00 ∷ 0x00 ∷ 0x00 ∷ 0x00 ∷ 0x00 ∷ 0x00 ∷ 0x00 ∷ 0x00 ∷ 0x00 ∷ 0x00 ∷ 0x00 ∷ 0x42 ∷ 0x54 ∷ 0x02 ∷ 0x00 ∷ 0x00 ∷ 0x00 ∷ 0x26 ∷ 0x00 ∷ 0x00 ∷ 0x00 ∷
    0x04 ∷ 0x40 ∷ 0x00 ∷ 0x00 ∷ 0x01 ∷ 0x00 ∷ 0x00 ∷ 0x00 ∷ 0x00 ∷ 0x00 ∷ 0x00 ∷ 0x00 ∷ 0x1D ∷ 0x08 ∷ 0x40 ∷ 0x00 ∷ 0x00 ∷ 0x01 ∷ 0x00 ∷ 0x00 ∷ 0x00 ∷ 0x00 ∷ 0x00 ∷ 0x00 ∷ 0x00 ∷ 0x01 ∷
    0x00 ∷ 0x00 ∷ 0x00 ∷ 0x05 ∷ 0x00 ∷ 0x00 ∷ 0x00 ∷ 0x41 ∷ 0x00 ∷ 0x05 ∷ 0x00 ∷ 0x56 ∷ []

abbrev pub plus_buffer : List ℕ
plus_buffer =
    0x04 ∷ 0x40 ∷ 0x00 ∷ 0x00 ∷ 0x01 ∷ 0x00 ∷ 0x00 ∷ 0x00 ∷ 0x00 ∷ 0x00 ∷ 0x00 ∷ 0x00 ∷ 0x1D ∷ 0x08 ∷ 0x40 ∷ 0x00 ∷ 0x00 ∷ 0x01 ∷ 0x00 ∷ 0x00 ∷ 0x00 ∷ 0x00 ∷ 0x00 ∷ 0x00 ∷ 0x00 ∷ 0x01 ∷ 0x00 ∷ 0x00 ∷ 0x00 ∷ 0x05 ∷ 0x00 ∷ 0x00 ∷ 0x00 ∷ 0x41 ∷ 0x00 ∷ 0x05 ∷ 0x00 ∷ 0x56 ∷ []

bundle_read : bundle_at plus_bundle ≡ bundle (record { parts = three_parts; symbols = []; trees = 2; bytes = plus_buffer })
unfolding records word_at
bundle_read = refl

bundle_passes : buffer_check plus_buffer 2 three_parts [] ≡ passed
unfolding check each_from place_of nest_from still_open own_reader judge tree_words tree_at after_span controlled span_at word_at
bundle_passes = refl

-- "trees 2 bytes 38 parts 3 symbols 0 loose 0", "0 0 1 subtree", "1 33 2 punct"
abbrev header_line : List ℕ
header_line = 116 ∷ 114 ∷ 101 ∷ 101 ∷ 115 ∷ 32 ∷ 50 ∷ 32 ∷ 98 ∷ 121 ∷ 116 ∷ 101 ∷ 115 ∷ 32 ∷ 51 ∷ 56 ∷ 32 ∷ 112 ∷ 97 ∷ 114 ∷ 116 ∷ 115 ∷ 32 ∷ 51 ∷ 32 ∷ 115 ∷ 121 ∷ 109 ∷ 98 ∷ 111 ∷ 108 ∷ 115 ∷ 32 ∷ 48 ∷ 32 ∷ 108 ∷ 111 ∷ 111 ∷ 115 ∷ 101 ∷ 32 ∷ 48 ∷ 10 ∷ []

abbrev root_line : List ℕ
root_line = 48 ∷ 32 ∷ 48 ∷ 32 ∷ 49 ∷ 32 ∷ 115 ∷ 117 ∷ 98 ∷ 116 ∷ 114 ∷ 101 ∷ 101 ∷ 10 ∷ []

abbrev plus_line : List ℕ
plus_line = 49 ∷ 32 ∷ 51 ∷ 51 ∷ 32 ∷ 50 ∷ 32 ∷ 112 ∷ 117 ∷ 110 ∷ 99 ∷ 116 ∷ 10 ∷ []

header_text : header 2 38 3 0 0 ≡ header_line
unfolding digits_for
header_text = refl

none_loose : buffer_loose plus_buffer 2 three_parts [] ≡ 0
unfolding buffer_loose loose_from loose_at loose_after place_of own_reader judge tree_words tree_at after_span controlled span_bytes span_at word_at
none_loose = refl

root_text : tree_line word_shape sort_word (own_reader plus_buffer 2 three_parts []) 0 ≡ root_line
unfolding tree_line digits_for around place_of own_reader judge tree_words tree_at after_span controlled span_at word_at
root_text = refl

plus_text : tree_line word_shape sort_word (own_reader plus_buffer 2 three_parts []) 1 ≡ plus_line
unfolding tree_line digits_for around place_of own_reader judge tree_words tree_at after_span controlled span_at word_at
plus_text = refl

lister_text_lem : lister_text plus_bundle ≡ header_line ++ (root_line ++ (plus_line ++ []))
unfolding tree_lines
lister_text_lem =
    ap (λ r. bundle_text r (check_of r)) bundle_read
    ∙ ap (bundle_text (bundle (record { parts = three_parts; symbols = []; trees = 2; bytes = plus_buffer }))) bundle_passes
    ∙ ap (λ k. header 2 38 3 0 k ++ (tree_line word_shape sort_word (own_reader plus_buffer 2 three_parts []) 0 ++ (tree_line word_shape sort_word (own_reader plus_buffer 2 three_parts []) 1 ++ []))) none_loose
    ∙ (λ i. header_text i ++ (root_text i ++ (plus_text i ++ [])))

-- an ident and a literal three deep
leaf_texts : (tree_line word_shape sort_word (own_reader ten_bytes 10 four_parts hundred_symbols) 2 ≡ 50 ∷ 32 ∷ 52 ∷ 48 ∷ 32 ∷ 51 ∷ 32 ∷ 105 ∷ 100 ∷ 101 ∷ 110 ∷ 116 ∷ 10 ∷ []) × (tree_line word_shape sort_word (own_reader ten_bytes 10 four_parts hundred_symbols) 3 ≡ 51 ∷ 32 ∷ 52 ∷ 54 ∷ 32 ∷ 51 ∷ 32 ∷ 108 ∷ 105 ∷ 116 ∷ 101 ∷ 114 ∷ 97 ∷ 108 ∷ 10 ∷ [])
unfolding tree_line digits_for around place_of own_reader judge tree_words tree_at after_span controlled span_at symbol_at word_at half_at
leaf_texts = (refl, refl)

-- "The lister takes 65,536 bytes of standard input (more is 1)."
lister_limit : (b : List ℕ) → length b ≡ 65536 → lister_text b ≡ bundle_text (bundle_at b) (check_of (bundle_at b))
lister_limit b h = simp h

lister_over : (b : List ℕ) → length b ≡ 65537 → lister_text b ≡ refusal_line 1 0
lister_over b h = simp h

-- a refused bundle: `+` with part 5 of 3 is tree 1
refused_bundle : bundle_text (bundle (record { parts = three_parts; symbols = []; trees = 2; bytes = take 33 plus_buffer ++ (0x55 ∷ 0 ∷ 5 ∷ 0 ∷ 0x56 ∷ []) }))
    (check_of (bundle (record { parts = three_parts; symbols = []; trees = 2; bytes = take 33 plus_buffer ++ (0x55 ∷ 0 ∷ 5 ∷ 0 ∷ 0x56 ∷ []) })))
    ≡ 114 ∷ 101 ∷ 102 ∷ 117 ∷ 115 ∷ 101 ∷ 100 ∷ 32 ∷ 56 ∷ 32 ∷ 97 ∷ 116 ∷ 32 ∷ 49 ∷ 10 ∷ []
unfolding digits_for check each_from place_of own_reader judge tree_words tree_at after_span controlled span_at word_at
refused_bundle = refl

-- the host's number
host_number : (number_of passed ≡ 0) × (number_of (Verdict.refused 7 3) ≡ 7)
host_number = (refl, refl)

-- records in any order: a symbol, a part, a symbol
mixed_bundle : bundle_at (0x53 ∷ 0x59 ∷ 5 ∷ 0 ∷ 0 ∷ 1 ∷ 0x53 ∷ 0x50 ∷ 7 ∷ 0 ∷ 0 ∷ 0 ∷ 8 ∷ 1 ∷ 0 ∷ 0 ∷ 9 ∷ 0 ∷ 2 ∷ 0 ∷ 0x53 ∷ 0x59 ∷ 6 ∷ 0 ∷ 0 ∷ 0 ∷ 0x42 ∷ 0x54 ∷ 3 ∷ 0 ∷ 0 ∷ 0 ∷ 1 ∷ 0 ∷ 0 ∷ 0 ∷ 4 ∷ [])
    ≡ bundle (record { parts = 7 ∷ 264 ∷ 131081 ∷ []; symbols = 16777221 ∷ 6 ∷ []; trees = 3; bytes = 4 ∷ [] })
unfolding records word_at
mixed_bundle = refl

refusal_text : refusal_line 7 0 ≡ 114 ∷ 101 ∷ 102 ∷ 117 ∷ 115 ∷ 101 ∷ 100 ∷ 32 ∷ 55 ∷ 32 ∷ 97 ∷ 116 ∷ 32 ∷ 48 ∷ 10 ∷ []
unfolding digits_for
refusal_text = refl

-- an empty bundle; another mark; one byte after the last; one byte too few; no last record
bad_bundles : (bundle_at [] ≡ bad_bundle) × (bundle_at (0x53 ∷ 0x51 ∷ []) ≡ bad_bundle) × (bundle_at (plus_bundle ++ (0 ∷ [])) ≡ bad_bundle) × (bundle_at (take 89 plus_bundle) ≡ bad_bundle)
    × (bundle_at (take 42 plus_bundle) ≡ bad_bundle)
unfolding records word_at
bad_bundles = (refl, refl, refl, refl, refl)
