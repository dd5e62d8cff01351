-- The size before replacing (document 02, ticket 4): what `set_token` would answer, of a copy with room enough.
use Rattle.std.specs.Prelude.{ℕ, List}
use Rattle.format.specs.Replace.{ReplaceReport, report_of, exchanged, replace_work}

-- the inputs of `set_token`, and how many work words there are in each run; no output is lent.
-- "A preview gives the byte length and both table sizes": of the new list, as ticket 1 counts them;
-- "refusals included; 6 can then come only from a short work run": all that ticket 1 asks before its outputs
abbrev pub preview_report : List ℕ → ℕ → List ℕ → List ℕ → ℕ → List ℕ → (a c d : ℕ) → ReplaceReport
preview_report b k parts symbols n w a c d = report_of (exchanged b k parts symbols n w) (replace_work b k parts symbols n w a c d)
