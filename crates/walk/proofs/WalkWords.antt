-- A step over the source's trees is, by list words, the step over the definitions' reader, without and with reports.
use Prim.Native.Nat.{ℕ}
use mathlib.Core.Path.{◌≡◌, refl, ap, ◌∙◌}
use mathlib.Core.List.{List}
use lib.ListN.{length}
use Rattle.format.specs.Reader.{Reader, Reply, got, bad, Answer}
use Rattle.format.specs.Walk.{Walk, WalkCall, walk_step}
use Rattle.format.specs.Tables.{Mode, mode_tables}
use Rattle.format.specs.Buffer.{word_shape, reader}
use Rattle.format.specs.Loose.{Loose, loose_at, beside, reported_shape, reported}
use Rattle.format.proofs.Shown.{shown_reply, shown, walk_shown}
use Rattle.tree.specs.declared.types.TokenTree.{TokenTree}
use Rattle.decode.specs.Decode.{read_in}
use Rattle.decode.proofs.DecodeUse.{worded, decoded_words}
use Rattle.walk.specs.Source.{tree_reader_in, report_shape, report_reader_in, shown_words, shown_report, answer_words, answer_report}

words_beside : (x : Loose) (z : Reply TokenTree) → shown_reply shown_words (beside x z) ≡ worded z
words_beside x (got t n k) = refl
words_beside x (bad r) = refl

report_beside : (x : Loose) (z : Reply TokenTree) → shown_reply shown_report (beside x z) ≡ beside x (worded z)
report_beside x (got t n k) = refl
report_beside x (bad r) = refl

module _ (b : List ℕ) (k : ℕ) (M : Mode) where
  pub reads_decoded : (n p : ℕ) → (report_reader_in b k M).read n p ≡ beside (loose_at b p) (read_in b M n p)
  unfolding report_reader_in tree_reader_in read_in
  reads_decoded n p = refl

  pub mode_shown : shown shown_words (report_reader_in b k M) ≡ reader b k (mode_tables M)
  unfolding report_reader_in tree_reader_in read_in
  mode_shown = λ i.
      record {
        sized = (reader b k (mode_tables M)).sized;
        trees = k;
        bytes = length b;
        read = λ n p. (words_beside (loose_at b p) (read_in b M n p) ∙ decoded_words M n p b k) i;
      }

  pub mode_reported : shown shown_report (report_reader_in b k M) ≡ reported (loose_at b) (reader b k (mode_tables M))
  unfolding report_reader_in tree_reader_in read_in
  mode_reported = λ i.
      record {
        sized = (reader b k (mode_tables M)).sized;
        trees = k;
        bytes = length b;
        read = λ n p. (report_beside (loose_at b p) (read_in b M n p) ∙ ap (beside (loose_at b p)) (decoded_words M n p b k)) i;
      }

abbrev pub in_words : Answer (TokenTree × Loose) × Walk → Answer (List ℕ) × Walk
in_words a = (answer_words a.0, a.1)

abbrev pub in_report : Answer (TokenTree × Loose) × Walk → Answer (List ℕ × Loose) × Walk
in_report a = (answer_report a.0, a.1)

module _ (b : List ℕ) (k : ℕ) (M : Mode) (c : WalkCall) (w : Walk) where
  pub walk_words : in_words (walk_step report_shape (report_reader_in b k M) c w) ≡ walk_step word_shape (reader b k (mode_tables M)) c w
  unfolding answer_words
  walk_words =
      walk_shown shown_words word_shape report_shape.blank (report_reader_in b k M) c w
      ∙ ap (λ (R : Reader (List ℕ)). walk_step word_shape R c w) (mode_shown b k M)

  pub walk_report : in_report (walk_step report_shape (report_reader_in b k M) c w) ≡ walk_step (reported_shape word_shape) (reported (loose_at b) (reader b k (mode_tables M))) c w
  unfolding answer_report
  walk_report =
      walk_shown shown_report (reported_shape word_shape) report_shape.blank (report_reader_in b k M) c w
      ∙ ap (λ (R : Reader (List ℕ × Loose)). walk_step (reported_shape word_shape) R c w) (mode_reported b k M)
