-- A call over the source's trees is, by list words, the call over the definitions' reader, without and with reports.
use Prim.Native.Nat.{ℕ}
use mathlib.Core.Path.{◌≡◌, ap, ◌∙◌}
use mathlib.Core.List.{List}
use Rattle.format.specs.Reader.{Reader, Answer}
use Rattle.format.specs.Cursor.{Cursor, CursorCall, cursor_step}
use Rattle.format.specs.Tables.{Mode, mode_tables}
use Rattle.format.specs.Buffer.{word_shape, reader}
use Rattle.format.specs.Loose.{Loose, loose_at, reported_shape, reported}
use Rattle.format.proofs.Shown.{cursor_shown}
use Rattle.tree.specs.declared.types.TokenTree.{TokenTree}
use Rattle.walk.specs.Source.{report_shape, report_reader_in, shown_words, shown_report, answer_words, answer_report}
use Rattle.walk.proofs.WalkWords.{mode_shown, mode_reported}

abbrev pub call_words : Answer (TokenTree × Loose) × Cursor → Answer (List ℕ) × Cursor
call_words a = (answer_words a.0, a.1)

abbrev pub call_report : Answer (TokenTree × Loose) × Cursor → Answer (List ℕ × Loose) × Cursor
call_report a = (answer_report a.0, a.1)

module _ (b : List ℕ) (k : ℕ) (M : Mode) (call : CursorCall) (c : Cursor) where
  pub cursor_words : call_words (cursor_step report_shape (report_reader_in b k M) call c) ≡ cursor_step word_shape (reader b k (mode_tables M)) call c
  unfolding answer_words
  cursor_words =
      cursor_shown shown_words word_shape report_shape.blank (report_reader_in b k M) call c
      ∙ ap (λ (R : Reader (List ℕ)). cursor_step word_shape R call c) (mode_shown b k M)

  pub cursor_report : call_report (cursor_step report_shape (report_reader_in b k M) call c) ≡ cursor_step (reported_shape word_shape) (reported (loose_at b) (reader b k (mode_tables M))) call c
  unfolding answer_report
  cursor_report =
      cursor_shown shown_report (reported_shape word_shape) report_shape.blank (report_reader_in b k M) call c
      ∙ ap (λ (R : Reader (List ℕ × Loose)). cursor_step (reported_shape word_shape) R call c) (mode_reported b k M)
