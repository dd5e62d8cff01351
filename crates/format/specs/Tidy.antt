-- The tidy writer (document 02, ticket 3): the list of an admitted buffer, written again over the same tables.
use Rattle.std.specs.Prelude.{ℕ, Bool, List, length, leb}
use Rattle.format.specs.Verdict.{Verdict, ◌and_then◌, rule, contents, Report, report}
use Rattle.format.specs.Word.{put}
use Rattle.format.specs.Buffer.{buffer_check}
use Rattle.format.specs.Writer.{packed}
use Rattle.format.specs.Unpack.{work_fits, list_of}

module _ (b : List ℕ) (k : ℕ) (parts symbols : List ℕ) where
  -- "the buffer that document 01's writer makes for the same list and the same tables"
  abbrev pub tidied : List ℕ
  tidied = packed parts symbols (list_of b k parts symbols)

  -- whether an output holds it
  abbrev pub tidy_fits : List ℕ → Bool
  tidy_fits out = leb (length tidied) (length out)

  -- "Checks: the check's own numbers, then 6 for .. work words as in Ticket 1", by how many there are in each run
  module _ (a c d : ℕ) where
    unfoldable pub tidy_work : Verdict
    tidy_work = buffer_check b k parts symbols and_then rule (work_fits k a c d) 6 0

    -- "6 for the output"
    module _ (out : List ℕ) where
      unfoldable pub tidy_verdict : Verdict
      tidy_verdict = tidy_work and_then rule (tidy_fits out) 6 0

      -- the byte length, or the refusal
      abbrev pub tidy_report : Report
      tidy_report = report tidy_verdict (length tidied)

      -- what the output holds then
      abbrev pub tidy_out : List ℕ
      tidy_out = contents tidy_verdict out (put out 0 tidied)
