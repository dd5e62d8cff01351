-- Document 01's table of refusals: the example of each row, and cases beside it, computed by the checker.
use Prim.Native.Nat.{ℕ, zero, suc, ◌+◌, ◌-◌, ◌≤◌, ◌<◌}
use mathlib.Core.Bool.{true, false}
use mathlib.Core.Logic.{⊎_elim}
use mathlib.Core.Path.{◌≡◌, refl, ap, ◌∙◌}
use mathlib.Core.List.{List, [], ◌∷◌, ◌++◌}
use native.Mathlib.Omega.{arith}
use lib.ListN.{take, drop, replicate}
use Rattle.format.specs.Verdict.{passed, refused, wrote, refusal, each_from}
use Rattle.format.specs.Word.{word_at, put}
use Rattle.format.specs.Span.{span_at, symbol_at}
use Rattle.format.specs.Reader.{got, bad}
use Rattle.format.specs.Plain.{Listing, end_of}
use Rattle.format.specs.Nest.{nest_from, nest, still_open}
use Rattle.format.proofs.NestRun.{run, run_done, run_four, run_sub, nest_as_run}
use Rattle.format.specs.Tree.{subtree, tree_at, after_span, controlled}
use Rattle.format.specs.Check.{check, place_of}
use Rattle.format.specs.Write.{tree_bytes, root_bytes, heavy_bytes, suffixes, span_bytes, symbol_bytes}
use Rattle.format.specs.Tables.{tree_words}
use Rattle.format.specs.Buffer.{judge, word_shape, own_reader, buffer_check}
use Rattle.format.specs.WordList.{raw_from, list_rules}
use Rattle.format.specs.Writer.{find, raws, list_verdict, writer_verdict, writer_report, work_after, out_after}
use Rattle.format.specs.Pack.{pack_span, pack_symbol, span_packed, span_report, symbol_report}
use Rattle.format.proofs.Tally.{lt_or_le}
use Rattle.format.proofs.Unread.{Cut, reads, disagrees, zeros_bytes}
use Rattle.format.proofs.Worked.{span_of, lone_root, two_parts, root_words, plus, parens}
use Rattle.format.proofs.Samples.{three_parts}

-- an Invisible root with count n, over three_parts
abbrev root : ℕ → List ℕ
root n = 3 ∷ n ∷ 3 ∷ 1 ∷ 0 ∷ 0 ∷ 0 ∷ 0 ∷ 2 ∷ 0 ∷ 0 ∷ 0 ∷ 0 ∷ []

-- a punct `+` with this spacing; an empty subtree that claims n descendants; an ident
abbrev punct_of : ℕ → List ℕ
punct_of x = 0 ∷ 43 ∷ x ∷ 7 ∷ 0 ∷ 0 ∷ 10 ∷ 1 ∷ 0 ∷ 0 ∷ 0 ∷ 0 ∷ 0 ∷ []

abbrev subtree_of : ℕ → List ℕ
subtree_of n = 3 ∷ n ∷ 0 ∷ 7 ∷ 0 ∷ 0 ∷ 5 ∷ 1 ∷ 7 ∷ 0 ∷ 0 ∷ 8 ∷ 1 ∷ []

abbrev ident_of : ℕ → List ℕ
ident_of y = 1 ∷ y ∷ 0 ∷ 7 ∷ 0 ∷ 0 ∷ 10 ∷ 1 ∷ 0 ∷ 0 ∷ 0 ∷ 0 ∷ 0 ∷ []

-- 1: "empty list"; 14 words; one part; part words not a multiple of 3
row_1 : (list_verdict two_parts [] [] ≡ refused 1 0) × (list_verdict two_parts [] (root_words ++ (0 ∷ [])) ≡ refused 1 0)
    × (list_verdict (0 ∷ 0 ∷ 0 ∷ []) [] root_words ≡ refused 1 0) × (list_verdict (two_parts ++ (0 ∷ [])) [] root_words ≡ refused 1 0)
    × (buffer_check lone_root 0 two_parts [] ≡ refused 1 0) × (buffer_check lone_root 1 [] [] ≡ refused 1 0)
unfolding list_verdict check own_reader
row_1 = (refl, refl, refl, refl, refl, refl)

-- 2: "spacing 3"; a leaf with a close span; sort 4; a row is asked of the whole list before the next one
row_2 : (list_verdict three_parts [] (root 1 ++ punct_of 3) ≡ refused 2 1)
    × (list_verdict three_parts [] (root 1 ++ (0 ∷ 43 ∷ 0 ∷ 7 ∷ 0 ∷ 0 ∷ 10 ∷ 1 ∷ 0 ∷ 0 ∷ 0 ∷ 0 ∷ 1 ∷ [])) ≡ refused 2 1)
    × (list_verdict three_parts [] (root 1 ++ (4 ∷ 0 ∷ 0 ∷ 7 ∷ 0 ∷ 0 ∷ 10 ∷ 1 ∷ 0 ∷ 0 ∷ 0 ∷ 0 ∷ 0 ∷ [])) ≡ refused 2 1)
    × (list_verdict three_parts [] (root 9 ++ punct_of 3) ≡ refused 2 1)
unfolding list_verdict list_rules each_from nest_from still_open raw_from find
row_2 = (refl, refl, refl, refl)

-- 3: "3 trees, root count 1"; a leaf as tree 0; a subtree that passes the end of the one around it, which it names
row_3 : (list_verdict three_parts [] (root 1 ++ punct_of 0 ++ punct_of 0) ≡ refused 3 0) × (list_verdict three_parts [] (punct_of 0) ≡ refused 3 0)
    × (list_verdict three_parts [] (root 3 ++ subtree_of 1 ++ subtree_of 1 ++ punct_of 0) ≡ refused 3 2)
unfolding list_verdict list_rules each_from nest_from still_open raw_from find
row_3 = (refl, refl, refl)

-- n subtrees, each in the one before
abbrev nested : ℕ → Listing (List ℕ)
nested n = record { k = n; tree = λ m. 3 ∷ (n - m - 1) ∷ []; place = λ m. 0 }

-- with d more to be opened, those from m on pass, or the one d further on is refused
too_deep : (n d m : ℕ) → m + d < n → run word_shape (nested n) m n d ≡ refused 4 (m + d)
too_deep n zero m h =
    run_four word_shape (nested n) m n (omega arith) refl (omega arith) ∙ ap (λ x. refused 4 x) (omega arith)
too_deep n (suc d) m h =
    let e : end_of word_shape (nested n) m ≡ n = omega arith in
    let j : suc d - 1 ≡ d = omega arith in
    let k : m + 1 + d ≡ m + suc d = omega arith in
    run_sub word_shape (nested n) m n (suc d) (omega arith) refl (omega arith) (omega arith) ∙ rw (e, j, too_deep n d (m + 1) (omega arith), k)

deep_enough : (n d m : ℕ) → n ≤ m + d → run word_shape (nested n) m n d ≡ passed
deep_enough n zero m h = run_done word_shape (nested n) m n 0 (omega arith)
deep_enough n (suc d) m h = ⊎_elim
    (λ (l : m < n).
    let e : end_of word_shape (nested n) m ≡ n = omega arith in
    let j : suc d - 1 ≡ d = omega arith in
    run_sub word_shape (nested n) m n (suc d) l refl (omega arith) (omega arith) ∙ rw (e, j, deep_enough n d (m + 1) (omega arith), run_done word_shape (nested n) n n (suc d) (omega arith)))
    (λ l. run_done word_shape (nested n) m n (suc d) l) (lt_or_le m n)

-- 4: "257 nested subtrees"; 256 pass
row_4 : (nest word_shape (nested 257) ≡ refused 4 256) × (nest word_shape (nested 256) ≡ passed)
row_4 = (nest_as_run word_shape (nested 257) ∙ too_deep 257 255 1 (omega arith), nest_as_run word_shape (nested 256) ∙ deep_enough 256 255 1 (omega arith))

-- 5: "symbol 9, empty table"; the root's part used below it; the last two parts are not the root's
row_5 : (list_verdict three_parts [] (root 1 ++ ident_of 9) ≡ refused 5 1)
    × (list_verdict three_parts [] (root 1 ++ (0 ∷ 43 ∷ 0 ∷ 1 ∷ 0 ∷ 0 ∷ 10 ∷ 1 ∷ 0 ∷ 0 ∷ 0 ∷ 0 ∷ 0 ∷ [])) ≡ refused 5 1)
    × (list_verdict (7 ∷ 0 ∷ 0 ∷ 2 ∷ 0 ∷ 0 ∷ 1 ∷ 0 ∷ 0 ∷ []) [] (root 1 ++ punct_of 0) ≡ refused 5 0)
    × (list_verdict three_parts [] (root 1 ++ punct_of 0) ≡ passed)
unfolding list_verdict list_rules each_from nest_from still_open raw_from find
row_5 = (refl, refl, refl, refl)

-- 6: "32 bytes for a lone root": the work words are filled, the output is unchanged; too few work words change nothing; with room what stands behind stays
row_6 : (writer_verdict two_parts [] root_words (5 ∷ 5 ∷ 5 ∷ []) (replicate 32 7) ≡ refused 6 0)
    × (work_after two_parts [] root_words (5 ∷ 5 ∷ 5 ∷ []) (replicate 32 7) ≡ 33 ∷ 0 ∷ 5 ∷ [])
    × (out_after two_parts [] root_words (5 ∷ 5 ∷ 5 ∷ []) (replicate 32 7) ≡ replicate 32 7)
    × (writer_verdict two_parts [] root_words (5 ∷ []) (replicate 34 7) ≡ refused 6 0)
    × (work_after two_parts [] root_words (5 ∷ []) (replicate 34 7) ≡ 5 ∷ [])
    × (out_after two_parts [] root_words (5 ∷ 5 ∷ []) (replicate 34 7) ≡ lone_root ++ (7 ∷ []))
unfolding list_verdict list_rules each_from nest_from still_open raw_from find raws suffixes tree_bytes root_bytes heavy_bytes put
row_6 = (refl, refl, refl, refl, refl, refl)

-- the root of document 01's listing, with this count of children bytes
abbrev around : ℕ → List ℕ
around kids =
    0x04 ∷ 0x40 ∷ 0 ∷ 0 ∷ 1 ∷ 0 ∷ 0 ∷ 0 ∷ 0 ∷ 0 ∷ 0 ∷ 0 ∷ 0x1D ∷ 0x08 ∷ 0x40 ∷ 0 ∷ 0 ∷ 1 ∷ 0 ∷ 0 ∷ 0 ∷ 0 ∷ 0 ∷ 0 ∷ 0 ∷ 1 ∷ 0 ∷ 0 ∷ 0 ∷ kids ∷ 0 ∷ 0 ∷ 0 ∷ []

-- 7: "33-byte root cut to 20"; a due tree missing; a long literal cut off behind its control byte
row_7 : (buffer_check (take 20 lone_root) 1 two_parts [] ≡ refused 7 0) × (buffer_check lone_root 2 two_parts [] ≡ refused 7 1)
    × (buffer_check (around 5 ++ (0 ∷ 0 ∷ 0 ∷ 0 ∷ 0x57 ∷ [])) 2 three_parts [] ≡ refused 7 1)
unfolding check each_from place_of own_reader judge tree_words tree_at after_span controlled span_at symbol_at word_at
row_7 = (refl, refl, refl)

-- … with its other 13 bytes, which are zeros, that root is read
root_cut : Cut (take 20 lone_root) 0
unfolding tree_at after_span controlled span_at word_at
root_cut =
    record {
      more = drop 20 lone_root;
      bytes = zeros_bytes 13;
      next = 33;
      whole = reads (subtree (span_of 0 0 0) (span_of 1 0 0) 0 3) 0 refl;
      passes = omega arith;
    }

-- a 000 whose bits disagree, without its last byte: with any byte there it is not read either, but its bytes are
bits_cut : Cut (0xC0 ∷ 0x80 ∷ 2 ∷ 0 ∷ 0x20 ∷ 0 ∷ []) 0
unfolding span_at word_at
bits_cut =
    record {
      more = 0 ∷ [];
      bytes = zeros_bytes 1;
      next = 7;
      whole = disagrees (record { opening = span_of 0 5 3; place = 4; stands = record { plain = refl; room = omega arith; form = refl }; bits = λ e. absurd (omega arith) }) refl;
      passes = omega arith;
    }

-- 2 in a buffer: a long literal kind above 10 as soon as its control byte is read; a root in another form; spacing 3
row_2_read : (buffer_check (around 5 ++ (0 ∷ 0 ∷ 0 ∷ 0 ∷ 0x5F ∷ [])) 2 three_parts [] ≡ refused 2 1)
    × (buffer_check parens 1 two_parts [] ≡ refused 2 0) × (buffer_check plus 1 two_parts [] ≡ refused 2 0)
    × (buffer_check (around 5 ++ (0x43 ∷ 0 ∷ 5 ∷ 0 ∷ 0x57 ∷ [])) 2 three_parts [] ≡ refused 2 1)
unfolding check each_from place_of own_reader judge tree_words tree_at after_span controlled span_at symbol_at word_at
row_2_read = (refl, refl, refl, refl)

-- 2 for control bits of a 000: stored length 3 beside bit 5; 2048, which no bits tell; 3 beside none passes. Cut off it is 7 first; naming a part of the root's it is 8
-- only where the bits agree
row_2_bits : (buffer_check (around 7 ++ (0xC0 ∷ 0x80 ∷ 2 ∷ 0 ∷ 0x20 ∷ 0 ∷ 0 ∷ [])) 2 three_parts [] ≡ refused 2 1)
    × (buffer_check (around 11 ++ (0 ∷ 0xC0 ∷ 2 ∷ 0 ∷ 0 ∷ 0x80 ∷ 0 ∷ 0 ∷ 0 ∷ 0 ∷ 0 ∷ [])) 2 three_parts [] ≡ refused 2 1)
    × (buffer_check (around 7 ++ (0xC0 ∷ 0x80 ∷ 2 ∷ 0 ∷ 0 ∷ 0 ∷ 0 ∷ [])) 2 three_parts [] ≡ passed)
    × (buffer_check (around 6 ++ (0xC0 ∷ 0x80 ∷ 2 ∷ 0 ∷ 0x20 ∷ 0 ∷ [])) 2 three_parts [] ≡ refused 7 1)
    × (buffer_check (around 7 ++ (0xC4 ∷ 0x80 ∷ 2 ∷ 0 ∷ 0x20 ∷ 0 ∷ 0 ∷ [])) 2 three_parts [] ≡ refused 2 1)
    × (buffer_check (around 7 ++ (0xC4 ∷ 0x80 ∷ 2 ∷ 0 ∷ 0 ∷ 0 ∷ 0 ∷ [])) 2 three_parts [] ≡ refused 8 1)
unfolding check each_from place_of nest_from still_open own_reader judge tree_words tree_at after_span controlled span_at word_at
row_2_bits = (refl, refl, refl, refl, refl, refl)

-- 8: "part 5 of 3"; a descendant that uses one of the last two; a root that does not use them
row_8 : (buffer_check (around 5 ++ (0x55 ∷ 0 ∷ 5 ∷ 0 ∷ 0x56 ∷ [])) 2 three_parts [] ≡ refused 8 1) × (buffer_check (around 5 ++ (0x45 ∷ 0 ∷ 5 ∷ 0 ∷ 0x56 ∷ [])) 2 three_parts [] ≡ refused 8 1)
    × (buffer_check lone_root 1 three_parts [] ≡ refused 8 0)
unfolding check each_from place_of own_reader judge tree_words tree_at after_span controlled span_at symbol_at word_at
row_8 = (refl, refl, refl)

-- 9: "root plus one stray byte", at the tree count; a children byte count of 4 for 5
row_9 : (buffer_check (lone_root ++ (7 ∷ [])) 1 two_parts [] ≡ refused 9 1) × (buffer_check (around 4 ++ plus) 2 three_parts [] ≡ refused 9 0) × (buffer_check (around 5 ++ plus) 2 three_parts [] ≡ passed)
unfolding check each_from place_of nest_from still_open own_reader judge tree_words tree_at after_span controlled span_at word_at
row_9 = (refl, refl, refl)

-- packing: 2, 8, 6 in this order, and the run is unchanged
packing : (pack_span [] 0 false 4 (span_of 268435456 0 0) ≡ refused 2 0) × (pack_span [] 0 false 3 (span_of 268435456 4294967295 1) ≡ refused 2 0) × (pack_span [] 0 false 3 (span_of 268435456 0 0) ≡ refused 8 0)
    × (pack_span (1 ∷ 2 ∷ 3 ∷ []) 0 false 3 (span_of 0 0 0) ≡ refused 6 0) × (span_packed (1 ∷ 2 ∷ 3 ∷ []) 0 false 3 (span_of 0 0 0) ≡ 1 ∷ 2 ∷ 3 ∷ [])
    × (span_packed (9 ∷ 9 ∷ 9 ∷ 9 ∷ 9 ∷ 9 ∷ []) 1 false 3 (span_of 0 0 0) ≡ 9 ∷ 3 ∷ 0 ∷ 0 ∷ 0 ∷ 9 ∷ []) × (pack_span (replicate 11 0) 0 true 0 (span_of 0 0 0) ≡ refused 6 0)
    × (pack_symbol [] 0 2 536870912 ≡ refused 2 0) × (pack_symbol [] 0 1 536870912 ≡ refused 8 0) × (pack_symbol (0 ∷ []) 0 0 64 ≡ refused 6 0) × (pack_symbol (0 ∷ []) 0 0 63 ≡ passed)
unfolding span_bytes heavy_bytes symbol_bytes put
packing = (refl, refl, refl, refl, refl, refl, refl, refl, refl, refl, refl)

-- a report is the number of bytes written
reports : (span_report (replicate 9 0) 1 false 0 (span_of 16 0 0) ≡ wrote 8) × (span_report [] 0 false 0 (span_of 268435456 0 0) ≡ refusal 8 0)
    × (symbol_report (replicate 9 0) 3 0 64 ≡ wrote 2) × (symbol_report [] 0 2 0 ≡ refusal 2 0)
    × (writer_report two_parts [] root_words (5 ∷ 5 ∷ []) (replicate 34 7) ≡ wrote 33) × (writer_report two_parts [] root_words (5 ∷ 5 ∷ []) (replicate 32 7) ≡ refusal 6 0)
unfolding span_bytes heavy_bytes symbol_bytes put list_verdict list_rules each_from nest_from still_open raw_from find raws suffixes tree_bytes root_bytes
reports = (refl, refl, refl, refl, refl, refl)

-- 000: the stored length is the distance where control bits 5 to 7 repeat it / 256. 255 and 256, 300 and 2047 with their bits; 255 with bit 5; 256 and 300 with none; 300
-- with bits 5 and 6; 2048 with bits 5 to 7
distances : (tree_at (0xC0 ∷ 0xBF ∷ 2 ∷ 0 ∷ 0x00 ∷ 0 ∷ 0 ∷ []) 0 ≡ got (subtree (span_of 0 5 1) (span_of 0 260 1) 0 0) 7 0)
    × (tree_at (0x00 ∷ 0xC0 ∷ 2 ∷ 0 ∷ 0 ∷ 0x10 ∷ 0 ∷ 0 ∷ 0x20 ∷ 0 ∷ 0 ∷ []) 0 ≡ got (subtree (span_of 0 5 1) (span_of 0 261 1) 0 0) 11 0)
    × (tree_at (0x00 ∷ 0xCB ∷ 2 ∷ 0 ∷ 0 ∷ 0x10 ∷ 0 ∷ 0 ∷ 0x20 ∷ 0 ∷ 0 ∷ []) 0 ≡ got (subtree (span_of 0 5 1) (span_of 0 305 1) 0 0) 11 0)
    × (tree_at (0xC0 ∷ 0xFF ∷ 2 ∷ 0 ∷ 0 ∷ 0x70 ∷ 0 ∷ 0 ∷ 0xE0 ∷ 0 ∷ 0 ∷ []) 0 ≡ got (subtree (span_of 0 5 1) (span_of 0 2052 1) 0 0) 11 0)
    × (tree_at (0xC0 ∷ 0xBF ∷ 2 ∷ 0 ∷ 0x20 ∷ 0 ∷ 0 ∷ []) 0 ≡ bad 2)
    × (tree_at (0x00 ∷ 0xC0 ∷ 2 ∷ 0 ∷ 0 ∷ 0x10 ∷ 0 ∷ 0 ∷ 0x00 ∷ 0 ∷ 0 ∷ []) 0 ≡ bad 2)
    × (tree_at (0x00 ∷ 0xCB ∷ 2 ∷ 0 ∷ 0 ∷ 0x10 ∷ 0 ∷ 0 ∷ 0x00 ∷ 0 ∷ 0 ∷ []) 0 ≡ bad 2)
    × (tree_at (0x00 ∷ 0xCB ∷ 2 ∷ 0 ∷ 0 ∷ 0x10 ∷ 0 ∷ 0 ∷ 0x60 ∷ 0 ∷ 0 ∷ []) 0 ≡ bad 2)
    × (tree_at (0x00 ∷ 0xC0 ∷ 2 ∷ 0 ∷ 0 ∷ 0x80 ∷ 0 ∷ 0 ∷ 0xE0 ∷ 0 ∷ 0 ∷ []) 0 ≡ bad 2)
unfolding tree_at after_span controlled span_at word_at
distances = (refl, refl, refl, refl, refl, refl, refl, refl, refl)
