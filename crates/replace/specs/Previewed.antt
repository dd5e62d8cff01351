-- Answer and contents of the preview of `set_token`, for every input, and how the sizes are found.
use Rattle.std.specs.Prelude.{ℕ, ◌≡◌, List, length, drop, Result}
use Rattle.format.specs.WordList.{list_count}
use Rattle.format.specs.MakeTables.{part_total, symbol_table}
use Rattle.format.specs.Replace.{fresh_bytes}
use Rattle.format.specs.Preview.{preview_report}
use Rattle.format.specs.Unpack.{count_work}
use Rattle.tree.specs.declared.refusal.Refusal.{Refusal}
use Rattle.replace.specs.Report.{replace_answer}
use Rattle.replace.specs.Left.{Left}
use Rattle.replace.specs.declared.report.Sizes.{Sizes}

-- how many bytes, parts and symbols l has over its own tables, and what the counts' work words hold then
pub record FreshFound (l : List ℕ) (r : Sizes) (d d' : List ℕ) : Type 0 where
  pub bytes : r.bytes ≡ length (fresh_bytes l)
  pub parts : r.parts ≡ part_total l
  pub symbols : r.symbols ≡ length (symbol_table l)
  pub counts_behind : drop (count_work (list_count l)) d' ≡ drop (count_work (list_count l)) d

-- of a buffer b of k trees with its tables, a tree number n and the words w of a leaf; the work words a, c, d
pub record Previewed (b : List ℕ) (k : ℕ) (parts symbols : List ℕ) (n : ℕ) (w a c d : List ℕ) (r : Result Sizes Refusal) (a' c' d' : List ℕ) : Type 0 where
  pub answer : r ≡ replace_answer (preview_report b k parts symbols n w (length a) (length c) (length d))
  pub left : Left b k parts symbols n w a c d a' c' d'
