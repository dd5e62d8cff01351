-- Answers of the preview for a host, in the numbers of `set_token`.
use Rattle.std.specs.Prelude.{ℕ, List, length}
use Rattle.format.specs.Preview.{preview_report}
use Rattle.replace.specs.Report.{replace_answer}
use Rattle.replace.specs.Left.{Left}
use Rattle.store.specs.Told.{Told, sizes_list}

-- as `preview` answers, and leaves the work words
pub record PreviewTold (b : List ℕ) (k : ℕ) (parts symbols : List ℕ) (n : ℕ) (w a c d : List ℕ) (r : ℕ) (told' a' c' d' : List ℕ) : Type 0 where
  pub answer : Told sizes_list 2 (replace_answer (preview_report b k parts symbols n w (length a) (length c) (length d))) r told'
  pub left : Left b k parts symbols n w a c d a' c' d'
