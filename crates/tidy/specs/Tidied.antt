-- Answer and contents of `tidy`, for every input, and of the writing behind the check.
use Rattle.std.specs.Prelude.{ℕ, ◌≡◌, List, length, drop, Result}
use Rattle.format.specs.Verdict.{Verdict, rule, contents, report}
use Rattle.format.specs.Word.{put}
use Rattle.format.specs.Unpack.{list_work, count_work, WorkLeft}
use Rattle.format.specs.Tidy.{tidied, tidy_fits, tidy_work, tidy_report, tidy_out}
use Rattle.tree.specs.Refusal.{report_answer}
use Rattle.tree.specs.declared.refusal.Refusal.{Refusal}

module _ (b : List ℕ) (k : ℕ) (parts symbols : List ℕ) where
  -- row 6 for the output x
  abbrev pub out_row : List ℕ → Verdict
  out_row x = rule (tidy_fits b k parts symbols x) 6 0

  -- what is written where the check passes and the work words a and d are long enough
  pub record WrittenAgain (a d x : List ℕ) (r : Result ℕ Refusal) (a' d' x' : List ℕ) : Type 0 where
    pub answer : r ≡ report_answer (report (out_row x) (length (tidied b k parts symbols)))
    pub bytes : x' ≡ contents (out_row x) x (put x 0 (tidied b k parts symbols))
    pub list_behind : drop (list_work k) a' ≡ drop (list_work k) a
    pub counts_behind : drop (count_work k) d' ≡ drop (count_work k) d

  -- the work words are a, c and d, the output is x
  module _ (a c d x : List ℕ) where
    -- what the lent runs hold then; c is lent shared and stays
    pub record Contents (a' d' x' : List ℕ) : Type 0 where
      pub bytes : x' ≡ tidy_out b k parts symbols (length a) (length c) (length d) x
      pub list_left : WorkLeft (tidy_work b k parts symbols (length a) (length c) (length d)) (list_work k) a a'
      pub counts_left : WorkLeft (tidy_work b k parts symbols (length a) (length c) (length d)) (count_work k) d d'

    pub record Tidied (r : Result ℕ Refusal) (a' d' x' : List ℕ) : Type 0 where
      pub answer : r ≡ report_answer (tidy_report b k parts symbols (length a) (length c) (length d) x)
      pub runs : Contents a' d' x'
